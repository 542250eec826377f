-- Effects that are seen, and that a legal step leads to no others than allowed actions do.
use Rattle.std.proofs.Common.{ℕ, Bool, true, false, ◌≡◌, ◌≤◌, ◌<◌, ◌+◌, ◌-◌, ◌&&◌, nat_lt, nat_le, min, refl, sym, subst, arith, if◌then◌else◌}
use Rattle.std.proofs.lemmas.Bool.Decides.{nat_tests}
use Rattle.plain_lemmas.proofs.Tests.{bit_small}
use Rattle.action_table.specs.declared.action.Action.{Action}
use Rattle.action_table.specs.declared.action.Action.TheVariants.{Innovation, Veneration, GreatStrides, MuscleMemory, ByregotsBlessing}
use Rattle.action_table.specs.Table.{row_of}
use Rattle.combo_effects.specs.Combos.{tick_of, after_of}
use Rattle.combo_effects.specs.Touches.{iq_after}
use Rattle.craft_settings.specs.Ranges.{SettingsFields}
use Rattle.craft_settings.specs.Rules.{is_allowed}
use Rattle.craft_state.specs.Craft.{EffectFields, StateFields}
use Rattle.craft_state.specs.declared.Combo.{Combo}
use Rattle.step_rules.specs.Step.{step_of, used_effects}
use Rattle.step_rules.proofs.LegalFacts.{legal_facts}
use Rattle.admissible.specs.Laws.{GoesOn}
use Rattle.admissible.proofs.Potential.{allowed-now}
use Rattle.relaxed_moves.specs.Places.{bit}
use Rattle.priced_moves.specs.declared.kinds.Units.{Units}
use Rattle.priced_moves.specs.Moves.{seen_of}
use Rattle.priced_laws.proofs.Seeing.{step-effects, after-iq}
use Rattle.priced_graph.specs.Sights.{IsSeenIn, sights_of}
use Rattle.plain_lemmas.proofs.Numbers.{if_below}

-- ---- the effects after a step

capped_stacks : (c : Bool) (iq more n : ℕ) → n ≡ (if c then 11 else 1) → iq < n → (if c then min 10 (iq + more) else iq) < n
capped_stacks true iq more n count h = omega arith
capped_stacks false iq more n count h = h

touched_iq : (g : SettingsFields) (iq n : ℕ) (combo : Combo) (a : Action) → n ≡ (if nat_le 11 g.level then 11 else 1) → iq < n → iq_after g.level iq combo a < n
touched_iq g iq n combo ByregotsBlessing count h = omega arith
touched_iq g iq n combo a count h = capped_stacks (nat_le 11 g.level) iq _ n count h

iq-within : (g : SettingsFields) (e : EffectFields) (a : Action) (n : ℕ) → n ≡ (if nat_le 11 g.level then 11 else 1) → e.iq < n → (after_of (tick_of (used_effects g e a)) a).iq < n
iq-within g e a n count h =
    subst (λ (m : ℕ). m < n) (sym (after-iq g e a))
    (if_below (nat_lt 0 (row_of a g.level).quality) (iq_after g.level e.iq e.combo a) e.iq n (touched_iq g e.iq n e.combo a count h) h)

four_within : (c : Bool) (n : ℕ) → c ≡ true → n ≡ (if c then 5 else 1) → 4 < n
four_within true n allowed count = omega arith
four_within false n allowed count = absurd (cc)

one_within : (c : Bool) (n : ℕ) → c ≡ true → n ≡ (if c then 2 else 1) → 1 < n
one_within true n allowed count = omega arith
one_within false n allowed count = absurd (cc)

innovation-within : (g : SettingsFields) (e : EffectFields) (a : Action) (n : ℕ) → is_allowed g a ≡ true → n ≡ (if is_allowed g Innovation then 5 else 1) → e.innovation < n →
    (after_of (tick_of (used_effects g e a)) a).innovation < n
unfolding tick_of after_of
innovation-within g e Innovation n allowed count h = four_within (is_allowed g Innovation) n allowed count
innovation-within g e _ n allowed count h = omega arith

veneration-within : (g : SettingsFields) (e : EffectFields) (a : Action) (n : ℕ) → is_allowed g a ≡ true → n ≡ (if is_allowed g Veneration then 5 else 1) → e.veneration < n →
    (after_of (tick_of (used_effects g e a)) a).veneration < n
unfolding tick_of after_of
veneration-within g e Veneration n allowed count h = four_within (is_allowed g Veneration) n allowed count
veneration-within g e _ n allowed count h = omega arith

more_some : (a b : ℕ) → a ≤ b → nat_lt 0 a ≡ true → nat_lt 0 b ≡ true
more_some a b less h = grind (arith, nat_tests)

fewer-bit : (a b n : ℕ) → a ≤ b → bit (nat_lt 0 b) < n → bit (nat_lt 0 a) < n
fewer-bit a b n less h = elim (nat_lt 0 a) as (λ t. nat_lt 0 a ≡ t → bit t < n) [
  | true ↦ λ some. subst (λ t. bit t < n) (more_some a b less some) h
  | false ↦ λ _. omega arith
] refl

gone_less : (c : Bool) (k : ℕ) → (if c then 0 else k) - 1 ≤ k
gone_less true k = omega arith
gone_less false k = omega arith

strides-within : (g : SettingsFields) (e : EffectFields) (a : Action) (n : ℕ) → is_allowed g a ≡ true → n ≡ (if is_allowed g GreatStrides then 2 else 1) → bit (nat_lt 0 e.strides) < n →
    bit (nat_lt 0 (after_of (tick_of (used_effects g e a)) a).strides) < n
unfolding tick_of after_of
strides-within g e GreatStrides n allowed count h = one_within (is_allowed g GreatStrides) n allowed count
strides-within g e a n allowed count h = fewer-bit _ e.strides n (gone_less (nat_lt 0 (row_of a g.level).quality) e.strides) h

muscle-within : (g : SettingsFields) (e : EffectFields) (a : Action) (n : ℕ) → is_allowed g a ≡ true → n ≡ (if is_allowed g MuscleMemory then 2 else 1) → bit (nat_lt 0 e.muscle) < n →
    bit (nat_lt 0 (after_of (tick_of (used_effects g e a)) a).muscle) < n
unfolding tick_of after_of
muscle-within g e MuscleMemory n allowed count h = one_within (is_allowed g MuscleMemory) n allowed count
muscle-within g e a n allowed count h = fewer-bit _ e.muscle n (gone_less (nat_lt 0 (row_of a g.level).progress) e.muscle) h

begun-within : (backload late : Bool) → bit (backload && late) < (if backload then 2 else 1)
begun-within true late = bit_small late
begun-within false late = omega arith

-- a legal step keeps the effects among those that the craft's allowed actions lead to, the first step too
pub sight-step : (g : SettingsFields) (units : Units) (s : StateFields) (a : Action) → GoesOn g s a → IsSeenIn (sights_of g) (seen_of g units s) → IsSeenIn (sights_of g) (seen_of g units (step_of g s a))
unfolding seen_of sights_of
sight-step g units s a step h =
    let allowed : is_allowed g a ≡ true = allowed-now g s a (legal_facts g s a step.legal) in
    let after : after_of (tick_of (used_effects g s.effects a)) a ≡ (step_of g s a).effects = sym (step-effects g s a step) in
    record {
      iq = subst (λ (e : EffectFields). e.iq < (if nat_le 11 g.level then 11 else 1)) after (iq-within g s.effects a _ refl h.iq);
      innovation = subst (λ (e : EffectFields). e.innovation < (if is_allowed g Innovation then 5 else 1)) after (innovation-within g s.effects a _ allowed refl h.innovation);
      veneration = subst (λ (e : EffectFields). e.veneration < (if is_allowed g Veneration then 5 else 1)) after (veneration-within g s.effects a _ allowed refl h.veneration);
      strides = subst (λ (e : EffectFields). bit (nat_lt 0 e.strides) < (if is_allowed g GreatStrides then 2 else 1)) after (strides-within g s.effects a _ allowed refl h.strides);
      muscle = subst (λ (e : EffectFields). bit (nat_lt 0 e.muscle) < (if is_allowed g MuscleMemory then 2 else 1)) after (muscle-within g s.effects a _ allowed refl h.muscle);
      begun = begun-within g.backload (nat_lt 0 (step_of g s a).progress);
    }
