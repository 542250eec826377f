-- A state that isn't less completes where the other does, with no less quality.
use Rattle.std.proofs.Common.{◌≡◌, ◌∙◌, sym, ◌≤◌, ℕ, Bool, true, false, arith, refl, ap, if◌then◌else◌, ◌||◌, ◌==◌, ◌+◌, ◌/◌, nat_lt, min, subst}
use Rattle.plain_lemmas.proofs.Tests.{eq_from, eq_to, or_left}
use Rattle.std.proofs.lemmas.Bool.Decides.{nat_tests}
use Rattle.std.proofs.Math.Nat.{mul-le-mul_left, mul-le-mul_right}
use Rattle.action_table.specs.Table.{row_of}
use Rattle.craft_numbers.specs.Gains.{progress_gain_of, bonus_of}
use Rattle.action_table.specs.declared.action.Action.{Action}
use Rattle.action_table.specs.declared.action.Action.TheVariants.{Groundwork}
use Rattle.craft_state.specs.Craft.{EffectFields, StateFields}
use Rattle.craft_settings.specs.Ranges.{SettingsFields}
use Rattle.step_rules.specs.Legality.{is_over, is_complete}
use Rattle.step_rules.specs.Step.{progress_efficiency, progress_after, acted_of, settled_of, step_of}
use Rattle.craft_state.specs.NotLess.{IsNotLess}
use Rattle.dominance.proofs.Children.{made, as_made, quality_after-made}

half_le : (d d' w x : ℕ) → d ≤ d' → (if nat_lt d w then x / 2 else x) ≤ (if nat_lt d' w then x / 2 else x)
half_le d d' w x more = grind arith

efficiency_le : (g : SettingsFields) (p : ℕ) (e : EffectFields) (c c' d d' q q' : ℕ) (action : Action) → d ≤ d' →
    progress_efficiency g (made c d p q e) action ≤ progress_efficiency g (made c' d' p q' e) action
efficiency_le g p e c c' d d' q q' Groundwork more = half_le d d' _ _ more
efficiency_le g p e c c' d d' q q' _ more = omega arith

gain_le : (base x y : ℕ) (v m : Bool) → x ≤ y → progress_gain_of base x v m ≤ progress_gain_of base y v m
gain_le base x y v m h =
    let first = mul-le-mul_left base h in
    let second = mul-le-mul_right (100 + bonus_of v 50 + bonus_of m 100) first in
    omega (arith, second)

capped : (b : Bool) (most p x y : ℕ) → x ≤ y → (if b then min most (p + x) else p) ≡ most → (if b then min most (p + y) else p) ≡ most
capped true most p x y h full = omega (arith, h, full)
capped false most p x y h full = full

full_after : (g : SettingsFields) (p : ℕ) (e : EffectFields) (c c' d d' q q' : ℕ) (action : Action) → d ≤ d' →
    progress_after g (made c d p q e) action ≡ g.progress → progress_after g (made c' d' p q' e) action ≡ g.progress
full_after g p e c c' d d' q q' action more full =
    capped (nat_lt 0 (row_of action g.level).progress) g.progress p _ _ (gain_le g.base_progress _ _ (nat_lt 0 e.veneration) (nat_lt 0 e.muscle) (efficiency_le g p e c c' d d' q q' action more)) full

-- whether a step completes is seen after what the action does at once
complete-acted : (g : SettingsFields) (s : StateFields) (action : Action) → is_complete g (step_of g s action) ≡ is_complete g (acted_of g s action)
unfolding step_of settled_of
complete-acted g s action =
    elim (is_over g (acted_of g s action)) as (λ b. is_complete g (if b then acted_of g s action else settled_of g s.effects action (acted_of g s action)) ≡ is_complete g (acted_of g s action)) [ true ↦ refl | false ↦ refl ]

step-acted : (g : SettingsFields) (s : StateFields) (action : Action) → is_complete g (acted_of g s action) ≡ true → step_of g s action ≡ acted_of g s action
unfolding step_of
step-acted g s action full =
    let over : is_over g (acted_of g s action) ≡ true = or_left _ _ full in
    ap (λ b. if b then acted_of g s action else settled_of g s.effects action (acted_of g s action)) over

pub record Finishes (g : SettingsFields) (a b : StateFields) (action : Action) : Type 0 where
  pub complete : is_complete g (step_of g a action) ≡ true
  pub quality : (step_of g b action).quality ≤ (step_of g a action).quality

acted-made : (g : SettingsFields) (p : ℕ) (e : EffectFields) (c c' d d' q q' : ℕ) (action : Action) → d ≤ d' → q ≤ q' →
    is_complete g (acted_of g (made c d p q e) action) ≡ true →
    (is_complete g (acted_of g (made c' d' p q' e) action) ≡ true) × ((acted_of g (made c d p q e) action).quality ≤ (acted_of g (made c' d' p q' e) action).quality)
unfolding acted_of
acted-made g p e c c' d d' q q' action durability quality full =
    (eq_to _ _ (full_after g p e c c' d d' q q' action durability (eq_from _ _ full)), quality_after-made g p e c c' d d' q q' action quality)

finishes-made : (g : SettingsFields) (p : ℕ) (e : EffectFields) (c c' d d' q q' : ℕ) (action : Action) → d ≤ d' → q ≤ q' →
    is_complete g (step_of g (made c d p q e) action) ≡ true → Finishes g (made c' d' p q' e) (made c d p q e) action
finishes-made g p e c c' d d' q q' action durability quality full =
    let a = made c' d' p q' e in
    let b = made c d p q e in
    let here : is_complete g (acted_of g b action) ≡ true = sym (complete-acted g b action) ∙ full in
    let both = acted-made g p e c c' d d' q q' action durability quality here in
    record {
      complete = complete-acted g a action ∙ both.0;
      quality = rw (step-acted g b action here, step-acted g a action both.0) both.1;
    }

pub finishes-not_less : (g : SettingsFields) (a b : StateFields) (action : Action) → IsNotLess a b → is_complete g (step_of g b action) ≡ true → Finishes g a b action
finishes-not_less g a b action not_less full =
    subst (λ (s : StateFields). Finishes g s b action) (sym (as_made a b not_less))
    (finishes-made g b.progress b.effects b.cp a.cp b.durability a.durability b.quality a.quality action not_less.durability not_less.quality full)
