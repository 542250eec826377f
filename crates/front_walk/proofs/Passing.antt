-- What the tests ask of states keeps what a walk asks of a test.
use Rattle.std.proofs.Common.{ℕ, Bool, true, false, ◌≡◌, ◌≤◌, ◌+◌, ◌*◌, ◌||◌, nat_le, nat_lt, min, refl, sym, arith, subst, if◌then◌else◌}
use Rattle.plain_lemmas.proofs.Tests.{eq_from, le_from, le_to}
use Rattle.action_table.specs.declared.action.Action.{Action}
use Rattle.action_table.specs.declared.action.Action.TheVariants.{Groundwork}
use Rattle.action_table.specs.Table.{row_of}
use Rattle.craft_numbers.specs.Gains.{progress_gain_of}
use Rattle.craft_state.specs.Craft.{StateFields}
use Rattle.craft_settings.specs.Ranges.{SettingsFields}
use Rattle.step_rules.specs.Step.{step_of, progress_efficiency}
use Rattle.relaxed_moves.proofs.Order.{progress_gain-more}
use Rattle.admissible.proofs.Limits.{step-parts}
use Rattle.prefix_fronts.specs.Prefix.{AreLimits}
use Rattle.front_walk.specs.Passing.{lets}

efficiency-most : (g : SettingsFields) (s : StateFields) (a : Action) → progress_efficiency g s a ≤ 360
efficiency-most g s Groundwork = grind arith
efficiency-most g s _ = grind arith

gain-most : (base p : ℕ) (v m : Bool) → p ≤ 360 → progress_gain_of base p v m ≤ 9 * base
gain-most base p v m small =
    let most : progress_gain_of base p v m ≤ progress_gain_of base 360 true true = progress_gain-more base p 360 v true m true small (λ _. refl) (λ _. refl) in
    omega (arith, most)

gained : (b : Bool) (most before gain m : ℕ) → gain ≤ m → (if b then min most (before + gain) else before) ≤ before + m
gained true most before gain m h = omega arith
gained false most before gain m h = omega arith

-- no action gains more than 9 times the base value
pub progress-most : (g : SettingsFields) (s : StateFields) (a : Action) → (step_of g s a).progress ≤ s.progress + 9 * g.base_progress
progress-most g s a =
    let parts = step-parts g s a in
    subst (λ (n : ℕ). n ≤ s.progress + 9 * g.base_progress) (sym parts.0)
    (gained (nat_lt 0 (row_of a g.level).progress) g.progress s.progress _ (9 * g.base_progress) (gain-most g.base_progress _ _ _ (efficiency-most g s a)))

later : (all : Bool) (p before after m j : ℕ) → after ≤ before + m → (all || nat_le p (after + m * j)) ≡ true →
    (all || nat_le p (before + m * (j + 1))) ≡ true
later true p before after m j h pass = refl
later false p before after m j h pass =
    let enough : p ≤ after + m * j = le_from _ _ pass in
    le_to _ _ (omega (arith, enough, h))

enough : (all : Bool) (p before after m j : ℕ) → after ≤ before + m → after ≡ p → (all || nat_le p (before + m * (j + 1))) ≡ true
enough true p before after m j h done = refl
enough false p before after m j h done = le_to _ _ (omega (arith, h, done))

pub lets_limits : (g : SettingsFields) (all : Bool) (target : ℕ) → AreLimits g target (lets g all)
lets_limits g all target = record {
  step = λ j s action within live legal goes pass. later all g.progress s.progress (step_of g s action).progress (9 * g.base_progress) j (progress-most g s action) pass;
  order = λ j a b within within' live not_less pass. subst (λ (n : ℕ). (all || nat_le g.progress (n + 9 * g.base_progress * j)) ≡ true) (sym not_less.progress) pass;
  last = λ j s action within live legal done reached. enough all g.progress s.progress (step_of g s action).progress (9 * g.base_progress) j (progress-most g s action) (eq_from _ _ done);
}
