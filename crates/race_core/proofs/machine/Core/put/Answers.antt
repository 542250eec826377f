use Rattle.std.proofs.Common.{subst, arith, rules}
use Rattle.std.proofs.lemmas.Grind.{common_steps}
use Rattle.race_core.specs.declared.event.Event.TheVariants.{Put}
use Rattle.race_core.specs.Sound.{IsSound}
use Rattle.race_core.specs.Seats.{seat_view}
use Rattle.race_core.proofs.Plays.{steady}
use Rattle.race_core.proofs.Kept.{live-inside, put-done}
use Rattle.race_core.proofs.machine.Core.put.Goals as goal

pub settle_word-requires-clause-there : goal.settle_word-requires-clause-there
settle_word-requires-clause-there g c κs within = live-inside c.args.self.now.views c.args.seat (seat_view c.args.self.now.truth c.in-Some.state.now) c.in-Some.ensures

pub settle_word-requires-clause-sound : goal.settle_word-requires-clause-sound
settle_word-requires-clause-sound g c κs within = let r = subst (IsSound g.T.Truth.size g.T.Truth.entry g.T.Truth.reached) c.self.view_is c.self.invariant in
    subst (IsSound g.T.Truth.size g.T.Truth.entry g.T.Truth.reached) (put-done g.T.Truth.size c.args.self.now c.args.seat c.in-Some.state.now c.in_ok-state-2.state c.in-Some.ensures c.args.index c.index-word.result.now c.filled_word-new.result c.args.entry (first_of (search rules, grind (arith, common_steps))) (first_of (search rules, grind (arith, common_steps))) (first_of (search rules, grind (arith, common_steps))) (first_of (search rules, grind (arith, common_steps))))
    (steady g.T.Truth.size g.T.Truth.entry g.T.Truth.reached c.args.self.now r (Put c.args.seat c.args.index c.args.entry) c.requires).sound
