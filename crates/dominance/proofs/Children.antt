-- A state that isn't less goes on to states that aren't less.
use Rattle.std.proofs.Common.{◌≡◌, ◌∙◌, ◌≤◌, ℕ, Bool, true, false, arith, refl, ap, if◌then◌else◌, ◌||◌, ◌==◌, ◌-◌, ◌+◌, ◌<◌, nat_lt, min}
use Rattle.step_rules.proofs.Bounds.{still_live}
use Rattle.plain_lemmas.proofs.Tests.{clash}
use Rattle.action_table.specs.Table.{row_of}
use Rattle.craft_numbers.specs.Gains.{progress_gain_of}
use Rattle.step_rules.proofs.LegalFacts.{legal_facts, legal_by}
use Rattle.action_table.specs.declared.action.Action.{Action}
use Rattle.action_table.specs.declared.action.Action.TheVariants.{Groundwork, TrainedEye}
use Rattle.craft_state.specs.Craft.{EffectFields, StateFields}
use Rattle.craft_settings.specs.Ranges.{SettingsFields}
use Rattle.step_rules.specs.Legality.{is_legal, is_over}
use Rattle.step_rules.specs.Step.{wear_at, progress_efficiency, quality_after, acted_of, settled_of, step_of}
use Rattle.craft_state.specs.NotLess.{IsNotLess}

-- a state with these effects
abbrev pub made : (cp durability progress quality : ℕ) → EffectFields → StateFields
made cp durability progress quality effects = record {
  cp = cp;
  durability = durability;
  progress = progress;
  quality = quality;
  effects = effects;
}

-- the better of two legal states is legal
is_legal-made : (g : SettingsFields) (p : ℕ) (e : EffectFields) (c c' d d' q q' : ℕ) (action : Action) →
    c ≤ c' → d ≤ d' → is_legal g (made c d p q e) action ≡ true → is_legal g (made c' d' p q' e) action ≡ true
is_legal-made g p e c c' d d' q q' action cp durability legal =
    let facts = legal_facts g (made c d p q e) action legal in
    legal_by g (made c' d' p q' e) action record {
      learned = facts.learned;
      free = facts.free;
      first = facts.first;
      stacks = facts.stacks;
      ten = facts.ten;
      no_waste = facts.no_waste;
      ready = facts.ready;
      paid = omega (arith, facts.paid, cp);
      live = still_live _ _ _ facts.live durability;
      in_time = facts.in_time;
    }

-- the durability outlasts a wear that leaves some
outlasts : (x : Bool) (d w : ℕ) → (x || (d - w == 0)) ≡ false → w < d
outlasts x d w live = grind arith

same_choice : (d d' w x y : ℕ) → w < d → d ≤ d' → (if nat_lt d' w then x else y) ≡ (if nat_lt d w then x else y)
same_choice d d' w x y lasts more = grind arith

-- the efficiency is the same where the lesser state goes on
progress_efficiency-made : (g : SettingsFields) (p : ℕ) (e : EffectFields) (c c' d d' q q' : ℕ) (action : Action) →
    d ≤ d' → wear_at g (made c d p q e) action < d →
    progress_efficiency g (made c' d' p q' e) action ≡ progress_efficiency g (made c d p q e) action
progress_efficiency-made g p e c c' d d' q q' Groundwork more lasts = same_choice _ _ _ _ _ lasts more
progress_efficiency-made g p e c c' d d' q q' _ more lasts = refl

-- the quality is not less
pub quality_after-made : (g : SettingsFields) (p : ℕ) (e : EffectFields) (c c' d d' q q' : ℕ) (action : Action) →
    q ≤ q' → quality_after g (made c d p q e) action ≤ quality_after g (made c' d' p q' e) action
quality_after-made g p e c c' d d' q q' TrainedEye more = omega arith
quality_after-made g p e c c' d d' q q' _ more = grind arith

-- the states after what the action does at once
IsNotLess-acted : (g : SettingsFields) (p : ℕ) (e : EffectFields) (c c' d d' q q' : ℕ) (action : Action) →
    c ≤ c' → d ≤ d' → q ≤ q' → is_over g (acted_of g (made c d p q e) action) ≡ false →
    IsNotLess (acted_of g (made c' d' p q' e) action) (acted_of g (made c d p q e) action)
unfolding acted_of
IsNotLess-acted g p e c c' d d' q q' action cp durability quality live = record {
  progress =
      ap (λ n. if nat_lt 0 (row_of action g.level).progress then min g.progress (p + progress_gain_of g.base_progress n (nat_lt 0 e.veneration) (nat_lt 0 e.muscle)) else p)
      (progress_efficiency-made g p e c c' d d' q q' action durability (outlasts _ _ _ live));
  effects = refl;
  cp = omega arith;
  durability = omega arith;
  quality = quality_after-made g p e c c' d d' q q' action quality;
}

IsNotLess-settled : (g : SettingsFields) (before : EffectFields) (a b : StateFields) (action : Action) →
    IsNotLess a b → IsNotLess (settled_of g before action a) (settled_of g before action b)
unfolding settled_of
IsNotLess-settled g before a b action not_less = record {
  progress = not_less.progress;
  effects = cc;
  cp = not_less.cp;
  durability = omega arith;
  quality = not_less.quality;
}

-- a state that isn't less than a live one is live
pub also_live : (g : SettingsFields) (a b : StateFields) → IsNotLess a b → is_over g b ≡ false → is_over g a ≡ false
also_live g a b better live = rw better.progress (still_live _ _ _ live better.durability)

-- the choice of the step, where the lesser state goes on
IsNotLess-choice : (g : SettingsFields) (before : EffectFields) (action : Action) (a b : StateFields) →
    (is_over g b ≡ false → IsNotLess a b) →
    is_over g (if is_over g b then b else settled_of g before action b) ≡ false →
    IsNotLess (if is_over g a then a else settled_of g before action a) (if is_over g b then b else settled_of g before action b)
IsNotLess-choice g before action a b not_less live =
    elim (is_over g b) as (λ t. is_over g b ≡ t → is_over g (if t then b else settled_of g before action b) ≡ false → IsNotLess (if is_over g a then a else settled_of g before action a) (if t then b else settled_of g before action b)) [
      | true ↦ λ over still. absurd (clash over still)
      | false ↦ λ going still.
          let better = not_less going in
          let goes : is_over g a ≡ false = also_live g a b better going in
          rw goes (IsNotLess-settled g before a b action better)
    ] refl live

IsNotLess-step-made : (g : SettingsFields) (p : ℕ) (e : EffectFields) (c c' d d' q q' : ℕ) (action : Action) →
    c ≤ c' → d ≤ d' → q ≤ q' → is_over g (step_of g (made c d p q e) action) ≡ false →
    IsNotLess (step_of g (made c' d' p q' e) action) (step_of g (made c d p q e) action)
unfolding step_of
IsNotLess-step-made g p e c c' d d' q q' action cp durability quality live =
    IsNotLess-choice g e action (acted_of g (made c' d' p q' e) action) (acted_of g (made c d p q e) action)
    (λ going. IsNotLess-acted g p e c c' d d' q q' action cp durability quality going) live

pub as_made : (a b : StateFields) → IsNotLess a b → a ≡ made a.cp a.durability b.progress a.quality b.effects
as_made a b not_less =
    ap (λ p. made a.cp a.durability p a.quality a.effects) not_less.progress
    ∙ ap (λ e. made a.cp a.durability b.progress a.quality e) not_less.effects

-- a state that isn't less is made of the other's progress and effects
pub is_legal-not_less : (g : SettingsFields) (a b : StateFields) (action : Action) →
    IsNotLess a b → is_legal g b action ≡ true → is_legal g a action ≡ true
is_legal-not_less g a b action not_less legal =
    rw (as_made a b not_less) (is_legal-made g b.progress b.effects b.cp a.cp b.durability a.durability b.quality a.quality action not_less.cp not_less.durability legal)

pub IsNotLess-step : (g : SettingsFields) (a b : StateFields) (action : Action) →
    IsNotLess a b → is_over g (step_of g b action) ≡ false → IsNotLess (step_of g a action) (step_of g b action)
IsNotLess-step g a b action not_less live =
    rw (as_made a b not_less) (IsNotLess-step-made g b.progress b.effects b.cp a.cp b.durability a.durability b.quality a.quality action not_less.cp not_less.durability not_less.quality live)
