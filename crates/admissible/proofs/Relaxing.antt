-- The relaxed state of the next state, against the move.
use Rattle.std.proofs.Common.{ℕ, Bool, true, false, None, ◌≡◌, ◌≤◌, ◌<◌, ◌+◌, ◌-◌, ◌*◌, ◌/◌, nat_lt, nat_le, min, refl, arith, if◌then◌else◌}
use Rattle.plain_lemmas.proofs.Tests.{clash}
use Rattle.std.proofs.lemmas.Nat.{div-add-mod', le-div}
use Rattle.action_table.specs.declared.action.Action.{Action}
use Rattle.action_table.specs.declared.action.Action.TheVariants.{BasicSynthesis, Veneration, Innovation, GreatStrides, MuscleMemory, Reflect, TrainedEye, ByregotsBlessing, TrainedFinesse, RefinedTouch, Groundwork}
use Rattle.action_table.specs.Table.{row_of}
use Rattle.craft_numbers.specs.Gains.{progress_gain_of}
use Rattle.craft_state.specs.declared.Combo.{Combo}
use Rattle.craft_state.specs.declared.Combo.TheVariants.{Basic}
use Rattle.craft_state.specs.Craft.{EffectFields, StateFields}
use Rattle.craft_settings.specs.Ranges.{SettingsFields}
use Rattle.craft_settings.specs.Rules.{is_allowed}
use Rattle.combo_effects.specs.Combos.{tick_of, after_of}
use Rattle.combo_effects.specs.Touches.{stacks_of, iq_after}
use Rattle.step_rules.specs.Legality.{effect_reason}
use Rattle.step_rules.specs.Step.{progress_efficiency, touch_gain, progress_after, quality_after, used_effects, acted_of, settled_of, step_of}
use Rattle.relaxed_moves.specs.Moves.{RelaxedFields, IsNoBetter, is_listed, has_stacks, is_move_of, unit_of, relax_of, move_gain_of, move_innovation, move_veneration, move_strides, move_progress, move_on_of}
use Rattle.relaxed_moves.proofs.Order.{div-more, progress_gain-more}
use Rattle.admissible.specs.Laws.{GoesOn}
use Rattle.admissible.proofs.Potential.{goes-acted, step-settled}
use Rattle.plain_lemmas.proofs.Numbers.{gained}

-- the actions that only a first step may be
abbrev pub opens : Action → Bool
opens MuscleMemory = true
opens Reflect = true
opens TrainedEye = true
opens _ = false

pub opens-not : (e : EffectFields) (a : Action) → e.first ≡ false → effect_reason e a ≡ None → opens a ≡ false
opens-not e MuscleMemory later ready = grind arith
opens-not e Reflect later ready = grind arith
opens-not e TrainedEye later ready = grind arith
opens-not e _ later ready = refl

stacks-le : (g : SettingsFields) (combo : Combo) (a : Action) → stacks_of g.level combo a ≤ stacks_of g.level Basic a
stacks-le g Basic RefinedTouch = omega arith
stacks-le g _ RefinedTouch = omega arith
stacks-le g Basic BasicSynthesis = omega arith
stacks-le g _ _ = omega arith

capped-more : (c : Bool) (n a b : ℕ) → a ≤ b → (if c then min 10 (n + a) else n) ≤ (if c then min 10 (n + b) else n)
capped-more true n a b h = omega arith
capped-more false n a b h = omega arith

kept_on : (c on : Bool) → (if c then false else on) ≡ true → on ≡ true
kept_on true on h = absurd (cc)
kept_on false on h = h

iq-le : (g : SettingsFields) (e : EffectFields) (a : Action) → iq_after g.level e.iq e.combo a ≤ iq_after g.level e.iq Basic a
iq-le g e ByregotsBlessing = omega arith
iq-le g e RefinedTouch = let more = stacks-le g e.combo RefinedTouch in capped-more (nat_le 11 g.level) e.iq _ _ more
iq-le g e a = let more = stacks-le g e.combo a in capped-more (nat_le 11 g.level) e.iq _ _ more

if_le : (c : Bool) (a b n : ℕ) → a ≤ b → (if c then a else n) ≤ (if c then b else n)
if_le true a b n h = h
if_le false a b n h = omega arith

step-iq : (g : SettingsFields) (e : EffectFields) (a : Action) →
    (after_of (tick_of (used_effects g e a)) a).iq ≤ (if nat_lt 0 (row_of a g.level).quality then iq_after g.level e.iq Basic a else e.iq)
unfolding tick_of after_of
step-iq g e BasicSynthesis = if_le (nat_lt 0 (row_of BasicSynthesis g.level).quality) (iq_after g.level e.iq e.combo BasicSynthesis) (iq_after g.level e.iq Basic BasicSynthesis) e.iq (iq-le g e BasicSynthesis)
step-iq g e a = if_le (nat_lt 0 (row_of a g.level).quality) (iq_after g.level e.iq e.combo a) (iq_after g.level e.iq Basic a) e.iq (iq-le g e a)

step-innovation : (g : SettingsFields) (e : EffectFields) (a : Action) → (after_of (tick_of (used_effects g e a)) a).innovation ≤ move_innovation e.innovation a
unfolding tick_of after_of
step-innovation g e Innovation = omega arith
step-innovation g e _ = omega arith

step-veneration : (g : SettingsFields) (e : EffectFields) (a : Action) → (after_of (tick_of (used_effects g e a)) a).veneration ≤ move_veneration e.veneration a
unfolding tick_of after_of
step-veneration g e Veneration = omega arith
step-veneration g e _ = omega arith

on-less : (c : Bool) (n : ℕ) → nat_lt 0 ((if c then 0 else n) - 1) ≡ true → (if c then false else nat_lt 0 n) ≡ true
on-less true n h = grind arith
on-less false n h = grind arith

step-strides : (g : SettingsFields) (e : EffectFields) (a : Action) → nat_lt 0 (after_of (tick_of (used_effects g e a)) a).strides ≡ true → move_strides g (nat_lt 0 e.strides) a ≡ true
unfolding tick_of after_of
step-strides g e GreatStrides h = refl
step-strides g e a h = on-less (nat_lt 0 (row_of a g.level).quality) e.strides h

step-muscle : (g : SettingsFields) (e : EffectFields) (a : Action) → opens a ≡ false → nat_lt 0 (after_of (tick_of (used_effects g e a)) a).muscle ≡ true →
    (if nat_lt 0 (row_of a g.level).progress then false else nat_lt 0 e.muscle) ≡ true
unfolding tick_of after_of
step-muscle g e MuscleMemory later h = absurd (cc)
step-muscle g e a later h = on-less (nat_lt 0 (row_of a g.level).progress) e.muscle h

efficiency-le : (g : SettingsFields) (s : StateFields) (a : Action) → progress_efficiency g s a ≤ (row_of a g.level).progress
efficiency-le g s Groundwork = grind arith
efficiency-le g s _ = omega arith

pub progress-le : (g : SettingsFields) (grain : ℕ) (s : StateFields) (a : Action) → progress_after g s a ≤ s.progress + move_progress g (relax_of g grain s) a
unfolding relax_of
progress-le g grain s a =
    gained (nat_lt 0 (row_of a g.level).progress) g.progress s.progress _ _
    (progress_gain-more g.base_progress _ _ _ _ _ _ (efficiency-le g s a) (λ e. e) (λ e. e))

gained_if : (c : Bool) (q n x : ℕ) → (if c then min q (n + x) else n) ≤ n + (if c then x else 0)
gained_if true q n x = omega arith
gained_if false q n x = omega arith

pub quality-le : (g : SettingsFields) (grain : ℕ) (s : StateFields) (a : Action) → opens a ≡ false → quality_after g s a ≤ s.quality + move_gain_of g (relax_of g grain s) a
unfolding relax_of move_gain_of
quality-le g grain s TrainedEye later = absurd (cc)
quality-le g grain s ByregotsBlessing later = gained_if (nat_lt 0 (row_of ByregotsBlessing g.level).quality) g.quality s.quality (touch_gain g s.effects ByregotsBlessing)
quality-le g grain s a later = gained_if (nat_lt 0 (row_of a g.level).quality) g.quality s.quality (touch_gain g s.effects a)

-- the bucket of what is left is at least that of the move
bucket-le : (p n n' u gain : ℕ) → 0 < u → n' ≤ n + gain → ((p - n) / u * u - gain) / u ≤ (p - n') / u
bucket-le p n n' u gain positive h = div-more _ _ u positive (omega (arith, div-add-mod' (p - n) u))

acted-parts : (g : SettingsFields) (s : StateFields) (a : Action) →
    ((settled_of g s.effects a (acted_of g s a)).progress ≡ progress_after g s a) × ((settled_of g s.effects a (acted_of g s a)).quality ≡ quality_after g s a) × ((settled_of g s.effects a (acted_of g s a)).effects ≡ after_of (tick_of (used_effects g s.effects a)) a)
unfolding acted_of settled_of
acted-parts g s a = (refl, refl, refl)

relaxed-settled : (g : SettingsFields) (grain : ℕ) (s s' : StateFields) (a : Action) → 0 < unit_of g grain → opens a ≡ false →
    s'.progress ≡ progress_after g s a → s'.effects ≡ after_of (tick_of (used_effects g s.effects a)) a →
    IsNoBetter (relax_of g grain s') (move_on_of g grain (relax_of g grain s) a)
unfolding relax_of move_on_of
relaxed-settled g grain s s' a positive later progress effects = record {
  bucket = bucket-le g.progress s.progress s'.progress (unit_of g grain) _ positive (rw progress (progress-le g grain s a));
  iq = rw effects (step-iq g s.effects a);
  innovation = rw effects (step-innovation g s.effects a);
  veneration = rw effects (step-veneration g s.effects a);
  strides = rw effects (step-strides g s.effects a);
  muscle = rw effects (step-muscle g s.effects a later);
}

-- the next state is no better than the move makes it
pub relaxed-step : (g : SettingsFields) (grain : ℕ) (s : StateFields) (a : Action) → 0 < unit_of g grain → GoesOn g s a → opens a ≡ false →
    IsNoBetter (relax_of g grain (step_of g s a)) (move_on_of g grain (relax_of g grain s) a)
relaxed-step g grain s a positive step later =
    let parts = acted-parts g s a in
    rw (step-settled g s a (goes-acted g s a step.live))
    (relaxed-settled g grain s (settled_of g s.effects a (acted_of g s a)) a positive later parts.0 parts.2)

pub quality-step : (g : SettingsFields) (grain : ℕ) (s : StateFields) (a : Action) → GoesOn g s a → opens a ≡ false →
    (step_of g s a).quality ≤ s.quality + move_gain_of g (relax_of g grain s) a
quality-step g grain s a step later =
    let parts = acted-parts g s a in
    rw (step-settled g s a (goes-acted g s a step.live), parts.1) (quality-le g grain s a later)

-- a rest is no move at all
pub rest-progress : (g : SettingsFields) (a : Action) → is_allowed g a ≡ true → is_listed g a ≡ false → opens a ≡ false → (row_of a g.level).progress ≡ 0
rest-progress g BasicSynthesis allowed rest later = grind arith
rest-progress g _ allowed rest later = grind arith

rest-quality : (g : SettingsFields) (a : Action) → is_allowed g a ≡ true → is_listed g a ≡ false → opens a ≡ false → (row_of a g.level).quality ≡ 0
rest-quality g BasicSynthesis allowed rest later = grind arith
rest-quality g _ allowed rest later = grind arith

rest-effects : (g : SettingsFields) (a : Action) (n m : ℕ) (on : Bool) → is_allowed g a ≡ true → is_listed g a ≡ false →
    (move_innovation n a ≡ n - 1) × (move_veneration m a ≡ m - 1) × (move_strides g on a ≡ true → on ≡ true)
rest-effects g Innovation n m on allowed rest = absurd (clash allowed rest)
rest-effects g Veneration n m on allowed rest = absurd (clash allowed rest)
rest-effects g GreatStrides n m on allowed rest = absurd (clash allowed rest)
rest-effects g a n m on allowed rest = (refl, refl, λ h. kept_on (nat_lt 0 (row_of a g.level).quality) on h)

no_progress : (base p : ℕ) (v w : Bool) → p ≡ 0 → progress_gain_of base p v w ≡ 0
no_progress base p v w none = rw none (grind arith)

same_bucket : (b u p : ℕ) → 0 < u → p ≡ 0 → b ≤ (b * u - p) / u
same_bucket b u p positive none = le-div b (b * u - p) u positive (omega arith)

if_none : (n a b : ℕ) → n ≡ 0 → (if nat_lt 0 n then a else b) ≤ b
if_none n a b none = rw none (omega arith)

muscle_kept : (n : ℕ) (on : Bool) → (if nat_lt 0 n then false else on) ≡ true → on ≡ true
muscle_kept n on h = kept_on (nat_lt 0 n) on h

pub rest-worse : (g : SettingsFields) (grain : ℕ) (x : RelaxedFields) (a : Action) → 0 < unit_of g grain → is_allowed g a ≡ true → is_listed g a ≡ false → opens a ≡ false →
    IsNoBetter (move_on_of g grain x a) x
unfolding move_on_of
rest-worse g grain x a positive allowed rest later =
    let effects = rest-effects g a x.innovation x.veneration x.strides allowed rest in
    record {
      bucket = same_bucket x.bucket (unit_of g grain) (move_progress g x a) positive (no_progress g.base_progress (row_of a g.level).progress (nat_lt 0 x.veneration) x.muscle (rest-progress g a allowed rest later));
      iq = if_none (row_of a g.level).quality _ _ (rest-quality g a allowed rest later);
      innovation = omega (arith, effects.0);
      veneration = omega (arith, effects.1);
      strides = effects.2;
      muscle = muscle_kept (row_of a g.level).progress x.muscle;
    }

pub rest-gain : (g : SettingsFields) (x : RelaxedFields) (a : Action) → is_allowed g a ≡ true → is_listed g a ≡ false → opens a ≡ false → move_gain_of g x a ≡ 0
unfolding move_gain_of
rest-gain g x a allowed rest later = rw (rest-quality g a allowed rest later) refl

pub IsNoBetter-trans : (x y z : RelaxedFields) → IsNoBetter x y → IsNoBetter y z → IsNoBetter x z
IsNoBetter-trans x y z h k = record {
  bucket = omega (arith, h.bucket, k.bucket);
  iq = omega (arith, h.iq, k.iq);
  innovation = omega (arith, h.innovation, k.innovation);
  veneration = omega (arith, h.veneration, k.veneration);
  strides = λ e. k.strides (h.strides e);
  muscle = λ e. k.muscle (h.muscle e);
}

stacks-ready : (g : SettingsFields) (grain : ℕ) (s : StateFields) (a : Action) → effect_reason s.effects a ≡ None → has_stacks (relax_of g grain s) a ≡ true
unfolding relax_of
stacks-ready g grain s ByregotsBlessing ready = grind arith
stacks-ready g grain s TrainedFinesse ready = grind arith
stacks-ready g grain s _ ready = refl

-- a legal action of the list is a move
pub moves-legal : (g : SettingsFields) (grain : ℕ) (s : StateFields) (a : Action) → effect_reason s.effects a ≡ None → is_listed g a ≡ true → is_move_of g (relax_of g grain s) a ≡ true
unfolding is_move_of
moves-legal g grain s a ready listed = rw (listed, stacks-ready g grain s a ready) refl
