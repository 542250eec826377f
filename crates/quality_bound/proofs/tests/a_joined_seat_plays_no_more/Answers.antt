use Rattle.std.proofs.Common.{rules, ◌≡◌, ℕ, refl, sym, subst}
use Rattle.craft_settings.specs.Ranges.{SettingsFields}
use Rattle.race_core.specs.declared.entry.Entry.TheVariants.{Best}
use Rattle.relaxed_moves.specs.Optimum.{best_plan, greatest, worth}
use Rattle.relaxed_moves.specs.Places.{state_at}
use Rattle.quality_bound.specs.Truths.{quality_entry}
use Rattle.quality_bound.proofs.tests.a_joined_seat_plays_no_more.Goals as goal

-- in bucket 0 the empty list does all the progress
no_progress_left : (g : SettingsFields) → Best 0 ≡ quality_entry g 16 7
unfolding best_plan greatest worth state_at
no_progress_left g = refl

pub run-requires-after_bounds : goal.run-requires-after_bounds
run-requires-after_bounds g c κs =
    let truth = c.in_ok-core.core.truth in
    let grain : truth.grain ≡ 16 = search rules in
    (tt, (tt, ((λ _. subst (λ (n : ℕ). Best 0 ≡ quality_entry truth.g n 7) (sym grain) (no_progress_left truth.g)), (tt, (tt, tt)))))
