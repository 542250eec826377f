use Rattle.std.proofs.Common.{subst, arith, rules}
use Rattle.std.proofs.lemmas.Grind.{common_steps}
use Rattle.race_core.specs.declared.event.Event.TheVariants.{Load}
use Rattle.race_core.specs.Sound.{IsSound}
use Rattle.race_core.specs.Seats.{seat_view}
use Rattle.race_core.proofs.Plays.{steady}
use Rattle.race_core.proofs.Kept.{live-inside, load-done}
use Rattle.race_core.proofs.machine.Core.load.Goals as goal

pub settle-requires-clause-there : goal.settle-requires-clause-there
settle-requires-clause-there g c κs within = live-inside c.args.self.now.views c.args.seat (seat_view c.args.self.now.truth c.in-Some.state.now) c.in-Some.ensures

pub settle-requires-clause-sound : goal.settle-requires-clause-sound
settle-requires-clause-sound g c κs within = let r = subst (IsSound g.T.Truth.size g.T.Truth.entry g.T.Truth.reached) c.self.view_is c.self.invariant in
    subst (IsSound g.T.Truth.size g.T.Truth.entry g.T.Truth.reached) (load-done g.T.Truth.size c.args.self.now c.args.seat c.in-Some.state.now c.in_ok-state-2.state c.in-Some.ensures c.args.index c.index-word.result.now (first_of (search rules, grind (arith, common_steps))) (first_of (search rules, grind (arith, common_steps))) (first_of (search rules, grind (arith, common_steps))))
    (steady g.T.Truth.size g.T.Truth.entry g.T.Truth.reached c.args.self.now r (Load c.args.seat c.args.index) tt).sound
