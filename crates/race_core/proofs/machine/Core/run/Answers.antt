use Rattle.std.proofs.Common.{subst, refl, get_or}
use Rattle.race_core.specs.declared.event.Event.TheVariants.{Load}
use Rattle.race_core.specs.Sound.{IsSound}
use Rattle.race_core.proofs.Plays.{steady-along}
use Rattle.race_core.proofs.Kept.{lawful-next, run-more}
use Rattle.race_core.proofs.machine.Core.run.Goals as goal

pub play-requires-after_bounds : goal.play-requires-after_bounds
play-requires-after_bounds g c κs within = lawful-next g.T.Truth.size g.T.Truth.entry g.T.Truth.reached c.args.self.now c.loop-event.self c.args.events.now c.loop-event.event-index _ (Load 0 0) (subst (IsSound g.T.Truth.size g.T.Truth.entry g.T.Truth.reached) c.self.view_is c.self.invariant) c.requires c.loop-event.invariant c.loop-event-test.true refl

pub returns-in_err-play-clause-steady : goal.returns-in_err-play-clause-steady
returns-in_err-play-clause-steady g c = steady-along g.T.Truth.size g.T.Truth.entry g.T.Truth.reached c.args.self.now c.args.events.now (subst (IsSound g.T.Truth.size g.T.Truth.entry g.T.Truth.reached) c.self.view_is c.self.invariant) c.requires

pub loop-event-preserved : goal.loop-event-preserved
loop-event-preserved g c = run-more g.T.Truth.size g.T.Truth.entry g.T.Truth.reached c.args.self.now c.loop-event.self c.play.new.self c.args.events.now c.loop-event.event-index (get_or c.args.events.now c.loop-event.event-index (Load 0 0)) (Load 0 0) c.loop-event.invariant c.in_ok-play.ensures.done c.loop-event-test.true refl

pub returns-clause-steady : goal.returns-clause-steady
returns-clause-steady g c = steady-along g.T.Truth.size g.T.Truth.entry g.T.Truth.reached c.args.self.now c.args.events.now (subst (IsSound g.T.Truth.size g.T.Truth.entry g.T.Truth.reached) c.self.view_is c.self.invariant) c.requires
