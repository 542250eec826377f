use Rattle.std.proofs.Common.{◌≡◌, ◌<◌, length, sym, subst, arith, rules, slice_index}
use Rattle.std.proofs.lemmas.Grind.{common_steps}
use Rattle.race_core.specs.Sound.{IsSound, IsMark}
use Rattle.race_core.specs.Seats.{seat_view}
use Rattle.race_core.proofs.Kept.{live-inside, inside-set, join-settles, mark-below}
use Rattle.race_core.proofs.machine.Core.join.Goals as goal

pub quality_of_mark-requires : goal.quality_of_mark-requires
quality_of_mark-requires g c = let is : c.index-mark.result.now ≡ slice_index c.self.inside.words.items 0 = (first_of (search rules, grind (arith, common_steps))) in
    mark-below (g.T.Truth.reached c.self.inside.truth) c.index-mark.result.now ((g.met.T.Truth g.world.𝓛 g.world.𝓜 g.world.𝓡 ((λ s x. x), (λ x. x), (λ x. x), λ x. x)).reached_fits c.self.inside.truth) (subst (IsMark (g.T.Truth.reached c.self.inside.truth)) (sym is) c.self.invariant.mark)

pub settle-requires-clause-there : goal.settle-requires-clause-there
settle-requires-clause-there g c κs within = live-inside c.args.self.now.views c.args.into (seat_view c.args.self.now.truth c.in-Some.state.now) c.in-Some.ensures

pub settle-requires-clause-sound : goal.settle-requires-clause-sound
settle-requires-clause-sound g c κs within = join-settles g.T.Truth.size g.T.Truth.entry g.T.Truth.reached c.args.self.now (subst (IsSound g.T.Truth.size g.T.Truth.entry g.T.Truth.reached) c.self.view_is c.self.invariant) c.args.into c.in-Some.state.now c.with_floor.result c.index-mark.result.now c.in-Some.ensures (first_of (search rules, grind (arith, common_steps)))
    c.args.from c.in-Some-live.other.now c.in-Some-live.ensures (first_of (search rules, grind (arith, common_steps)))

pub retire-requires-after_bounds : goal.retire-requires-after_bounds
retire-requires-after_bounds g c κs within = subst (λ b. c.args.from < length b.views) (sym c.settle.ensures)
    (inside-set c.args.self.now.views c.args.into _ c.args.from (live-inside c.args.self.now.views c.args.from (seat_view c.args.self.now.truth c.in-Some-live.other.now) c.in-Some-live.ensures))
