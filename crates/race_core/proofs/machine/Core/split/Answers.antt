use Rattle.std.proofs.Common.{◌≡◌, ◌<◌, ◌++◌, ◌∷◌, [], length, sym, ap, ◌∙◌, subst, arith, rules, slice_set}
use Rattle.std.proofs.lemmas.Grind.{common_steps}
use Rattle.race_core.specs.Events.{set_view, new_view}
use Rattle.race_core.specs.Sound.{IsSound, Sound}
use Rattle.race_core.specs.Seats.{seat_view}
use Rattle.race_core.proofs.Kept.{live-inside, inside-longer, split-done, split-enters, split-settles}
use Rattle.race_core.proofs.machine.Core.split.Goals as goal

pub enter-requires-after_bounds : goal.enter-requires-after_bounds
enter-requires-after_bounds g c κs within = split-enters g.T.Truth.size g.T.Truth.entry g.T.Truth.reached c.args.self.now (subst (IsSound g.T.Truth.size g.T.Truth.entry g.T.Truth.reached) c.self.view_is c.self.invariant) c.args.seat c.in-Some.state.now c.in_ok-other.other c.index-mark.result.now c.in-Some.ensures (first_of (search rules, grind (arith, common_steps))) (first_of (search rules, grind (arith, common_steps)))

pub settle-requires-clause-there : goal.settle-requires-clause-there
settle-requires-clause-there g c κs within = subst (λ b. c.args.seat < length b.views) (sym c.in_ok-enter.ensures)
    (inside-longer c.args.self.now.views _ c.args.seat (live-inside c.args.self.now.views c.args.seat (seat_view c.args.self.now.truth c.in-Some.state.now) c.in-Some.ensures))

pub settle-requires-clause-sound : goal.settle-requires-clause-sound
settle-requires-clause-sound g c κs within = let same : c.in_ok-other.other ≡ c.with_floor-state.result = (first_of (search rules, grind (arith, common_steps))) in
    subst (λ b. Sound g.T.Truth.size g.T.Truth.entry g.T.Truth.reached b.truth b.words (slice_set b.views c.args.seat (seat_view b.truth c.with_floor-state.result))) (sym c.in_ok-enter.ensures)
    (subst (λ q. Sound g.T.Truth.size g.T.Truth.entry g.T.Truth.reached c.args.self.now.truth c.args.self.now.words (slice_set (c.args.self.now.views ++ seat_view c.args.self.now.truth c.in_ok-other.other ∷ []) c.args.seat (seat_view c.args.self.now.truth q))) same
    (split-settles g.T.Truth.size g.T.Truth.entry g.T.Truth.reached c.args.self.now (subst (IsSound g.T.Truth.size g.T.Truth.entry g.T.Truth.reached) c.self.view_is c.self.invariant) c.args.seat c.in-Some.state.now c.in_ok-other.other c.index-mark.result.now c.in-Some.ensures (first_of (search rules, grind (arith, common_steps))) (first_of (search rules, grind (arith, common_steps)))))

pub returns : goal.returns
returns g c = let same : c.in_ok-other.other ≡ c.with_floor-state.result = (first_of (search rules, grind (arith, common_steps))) in
    c.settle.ensures ∙ ap (λ b. set_view c.args.seat (seat_view b.truth c.with_floor-state.result) b) c.in_ok-enter.ensures
    ∙ ap (λ q. set_view c.args.seat (seat_view c.args.self.now.truth q) (new_view (seat_view c.args.self.now.truth c.in_ok-other.other) c.args.self.now)) (sym same)
    ∙ sym (split-done g.T.Truth.size c.args.self.now c.args.seat c.in-Some.state.now c.in_ok-other.other c.index-mark.result.now c.in-Some.ensures (first_of (search rules, grind (arith, common_steps))) (first_of (search rules, grind (arith, common_steps))))
