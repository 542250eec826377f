-- What is seen of the next state, against the move.
use Rattle.std.proofs.Common.{ℕ, Bool, true, false, ◌≡◌, ◌≤◌, inl, inr, ◌+◌, ◌-◌, ◌*◌, nat_lt, min, refl, ap, ◌∙◌, arith, if◌then◌else◌, ◌&&◌, ◌||◌, subst}
use Rattle.plain_lemmas.proofs.Tests.{clash}
use Rattle.std.proofs.lemmas.Nat.{mul-le, le-div}
use Rattle.action_table.specs.declared.action.Action.{Action}
use Rattle.action_table.specs.declared.action.Action.TheVariants.{Groundwork, BasicSynthesis, BasicTouch, Observe, StandardTouch}
use Rattle.action_table.specs.Table.{row_of}
use Rattle.craft_numbers.specs.Gains.{bonus_of, progress_gain_of}
use Rattle.craft_state.specs.declared.Combo.{Combo}
use Rattle.craft_state.specs.declared.Combo.TheVariants.{NoCombo, Basic}
use Rattle.craft_state.specs.Craft.{EffectFields, StateFields}
use Rattle.craft_settings.specs.Ranges.{SettingsFields}
use Rattle.craft_settings.specs.Rules.{is_allowed}
use Rattle.combo_effects.specs.Combos.{tick_of, after_of, next_combo}
use Rattle.combo_effects.specs.Touches.{iq_after}
use Rattle.step_rules.specs.Legality.{IsWithin}
use Rattle.step_rules.specs.Step.{progress_efficiency, progress_after, used_effects, acted_of, settled_of, step_of}
use Rattle.step_rules.proofs.LegalFacts.{legal_facts, effects_allow}
use Rattle.relaxed_moves.specs.Moves as relaxed
use Rattle.relaxed_moves.specs.Moves.{relax_of, move_progress}
use Rattle.admissible.specs.Laws.{GoesOn}
use Rattle.admissible.proofs.Potential.{goes-acted, step-settled, allowed-now}
use Rattle.admissible.proofs.Relaxing.{opens, opens-not, progress-le, quality-le, rest-progress, rest-gain}
use Rattle.admissible.proofs.Limits.{Later, move-law, rest-law, step-parts}
use Rattle.priced_moves.specs.declared.kinds.Units.{Units}
use Rattle.priced_moves.specs.Moves.{plain, IsNoAbler, AreUnits, ceiling, is_listed, progress_units, seen_of, gain_of, progress_of, shift_of, move_on_of}
use Rattle.priced_laws.specs.Laws.{GoesLater}
use Rattle.priced_moves.proofs.Places.{own-efficiency}
use Rattle.priced_laws.proofs.Places.{listed-relaxed}
use Rattle.priced_moves.proofs.Rounding.{ceiling-covers, ceiling-more, ceiling-add}

as-later : (g : SettingsFields) (s : StateFields) (a : Action) → GoesLater g s a → Later g 1 s a
as-later g s a later = record { step = later.step; first = later.first; low = omega arith }

pub opens-later : (g : SettingsFields) (s : StateFields) (a : Action) → GoesLater g s a → opens a ≡ false
opens-later g s a later = opens-not s.effects a later.first (effects_allow g s a (legal_facts g s a later.step.legal))

-- the need falls by no more than the shift
need-falls : (units : Units) (p n n' gain : ℕ) → AreUnits units → n' ≤ n + gain →
    progress_units units (p - n) - progress_units units gain ≤ progress_units units (p - n')
need-falls units p n n' gain are more =
    let product : (p - n) * units.share ≤ (p - n' + gain) * units.share = mul-le (p - n) units.share (p - n' + gain) units.share (omega arith) (omega arith) in
    let high : ceiling ((p - n) * units.share) units.progress ≤ ceiling ((p - n') * units.share + gain * units.share) units.progress =
    ceiling-more ((p - n) * units.share) ((p - n') * units.share + gain * units.share) units.progress are.progress (omega (arith, product)) in
    let sum = ceiling-add ((p - n') * units.share) (gain * units.share) units.progress are.progress in
    omega (arith, high, sum)

-- the progress after a step is no more than the move makes it
pub seen-progress : (g : SettingsFields) (units : Units) (s : StateFields) (a : Action) → is_allowed g a ≡ true →
    progress_after g s a ≤ s.progress + progress_of g (seen_of g units s) a
unfolding seen_of relax_of
seen-progress g units s a allowed =
    let gained : progress_after g s a ≤ s.progress + move_progress g (relax_of g 1 s) a = progress-le g 1 s a in
    rw (own-efficiency g a allowed) gained

pub step-need : (g : SettingsFields) (units : Units) (s : StateFields) (a : Action) → AreUnits units → is_allowed g a ≡ true →
    (seen_of g units s).need - shift_of g units (seen_of g units s) a ≤ (seen_of g units (step_of g s a)).need
unfolding seen_of
step-need g units s a are allowed =
    let parts = step-parts g s a in
    let gained = seen-progress g units s a allowed in
    need-falls units g.progress s.progress (step_of g s a).progress _ are (omega (arith, parts.0, gained))

pub after-iq : (g : SettingsFields) (e : EffectFields) (a : Action) →
    (after_of (tick_of (used_effects g e a)) a).iq ≡ (if nat_lt 0 (row_of a g.level).quality then iq_after g.level e.iq e.combo a else e.iq)
unfolding tick_of after_of
after-iq g e BasicSynthesis = refl
after-iq g e a = refl

after-combo : (g : SettingsFields) (e : EffectFields) (a : Action) → (after_of (tick_of (used_effects g e a)) a).combo ≡ next_combo e.combo a
unfolding tick_of after_of
after-combo g e a = refl

settled-effects : (g : SettingsFields) (s : StateFields) (a : Action) → (settled_of g s.effects a (acted_of g s a)).effects ≡ after_of (tick_of (used_effects g s.effects a)) a
unfolding settled_of acted_of
settled-effects g s a = refl

pub step-effects : (g : SettingsFields) (s : StateFields) (a : Action) → GoesOn g s a → (step_of g s a).effects ≡ after_of (tick_of (used_effects g s.effects a)) a
step-effects g s a step = ap (λ t. t.effects) (step-settled g s a (goes-acted g s a step.live)) ∙ settled-effects g s a

step-iq : (g : SettingsFields) (s : StateFields) (a : Action) → GoesOn g s a →
    (step_of g s a).effects.iq ≡ (if nat_lt 0 (row_of a g.level).quality then iq_after g.level s.effects.iq s.effects.combo a else s.effects.iq)
step-iq g s a step = ap (λ e. e.iq) (step-effects g s a step) ∙ after-iq g s.effects a

step-combo : (g : SettingsFields) (s : StateFields) (a : Action) → GoesOn g s a → (step_of g s a).effects.combo ≡ next_combo s.effects.combo a
step-combo g s a step = ap (λ e. e.combo) (step-effects g s a step) ∙ after-combo g s.effects a

-- progress that is made is some
some_gain : (base p : ℕ) (v m : Bool) → 1 ≤ base → 100 ≤ p → 1 ≤ progress_gain_of base p v m
some_gain base p v m some enough =
    let product : 1 * 100 ≤ base * p = mul-le 1 100 base p some enough in
    let whole : 100 * 100 ≤ base * p * (100 + bonus_of v 50 + bonus_of m 100) = mul-le 100 100 (base * p) (100 + bonus_of v 50 + bonus_of m 100) (omega (arith, product)) (omega arith) in
    le-div 1 (base * p * (100 + bonus_of v 50 + bonus_of m 100)) 10000 (omega arith) (omega (arith, whole))

enough : (g : SettingsFields) (s : StateFields) (a : Action) → nat_lt 0 (row_of a g.level).progress ≡ true → 100 ≤ progress_efficiency g s a
enough g s Groundwork made = grind arith
enough g s BasicSynthesis made = grind arith
enough g s _ made = grind arith

made_some : (c : Bool) (p n gain : ℕ) → c ≡ true → 1 ≤ p → 1 ≤ gain → 1 ≤ (if c then min p (n + gain) else n)
made_some true p n gain e some more = omega arith
made_some false p n gain e some more = absurd (cc)

none_made : (late some made after : Bool) → (made ≡ true → after ≡ true) → (some ≡ true → after ≡ true) → (late && after) ≡ false → ((late && some) || (late && made)) ≡ false
none_made false some made after h k l = refl
none_made true false false after h k l = refl
none_made true true made after h k l = let e : after ≡ true = k refl in absurd (cc)
none_made true false true after h k l = let e : after ≡ true = h refl in absurd (cc)

some_test : (n : ℕ) → 1 ≤ n → nat_lt 0 n ≡ true
some_test n h = grind arith

some_by : (n : ℕ) → nat_lt 0 n ≡ true → 1 ≤ n
some_by n h = grind arith

more_progress : (c : Bool) (p n gain : ℕ) → n ≤ p → n ≤ (if c then min p (n + gain) else n)
more_progress true p n gain h = omega arith
more_progress false p n gain h = omega arith

begun-move : (g : SettingsFields) (s : StateFields) (a : Action) → IsWithin g s →
    (g.backload && nat_lt 0 (step_of g s a).progress) ≡ false → ((g.backload && nat_lt 0 s.progress) || (g.backload && nat_lt 0 (row_of a g.level).progress)) ≡ false
begun-move g s a within h =
    let parts = step-parts g s a in
    none_made g.backload (nat_lt 0 s.progress) (nat_lt 0 (row_of a g.level).progress) (nat_lt 0 (step_of g s a).progress)
    (λ made.
    let some : 1 ≤ progress_after g s a =
    made_some (nat_lt 0 (row_of a g.level).progress) g.progress s.progress _ made within.settings.progress.low (some_gain g.base_progress (progress_efficiency g s a) _ _ within.settings.base_progress.low (enough g s a made)) in
    some_test (step_of g s a).progress (omega (arith, parts.0, some)))
    (λ some.
    let before : 1 ≤ s.progress = some_by s.progress some in
    let more : s.progress ≤ progress_after g s a = more_progress (nat_lt 0 (row_of a g.level).progress) g.progress s.progress _ within.progress in
    some_test (step_of g s a).progress (omega (arith, parts.0, before, more)))
    h

if_none : (n a b : ℕ) → n ≡ 0 → (if nat_lt 0 n then a else b) ≡ b
if_none n a b none = rw none refl

begun-rest : (g : SettingsFields) (s : StateFields) (a : Action) → is_allowed g a ≡ true → is_listed g a ≡ false → opens a ≡ false →
    (g.backload && nat_lt 0 (step_of g s a).progress) ≡ false → (g.backload && nat_lt 0 s.progress) ≡ false
begun-rest g s a allowed rest later h =
    let parts = step-parts g s a in
    let same : (step_of g s a).progress ≡ s.progress = parts.0 ∙ if_none (row_of a g.level).progress _ _ (rest-progress g a allowed (listed-relaxed g a rest) later) in
    subst (λ (n : ℕ). (g.backload && nat_lt 0 n) ≡ false) same h

-- the next state can do no more than the move makes it
pub seen-move : (g : SettingsFields) (units : Units) (s : StateFields) (a : Action) → AreUnits units → GoesLater g s a →
    IsNoAbler (seen_of g units (step_of g s a)) (move_on_of g units (seen_of g units s) a)
unfolding seen_of move_on_of relax_of relaxed.move_on_of
seen-move g units s a are later =
    let law = move-law g 1 s a (as-later g s a later) in
    let iq = step-iq g s a later.step in
    record {
      plain = record {
        bucket = step-need g units s a are (allowed-now g s a (legal_facts g s a later.step.legal));
        iq = omega (arith, iq);
        innovation = law.innovation;
        veneration = law.veneration;
        strides = law.strides;
        muscle = law.muscle;
      };
      combo = inr (step-combo g s a later.step);
      begun = begun-move g s a later.step.within;
    }

-- a rest leaves no combo
rest-combo : (g : SettingsFields) (combo : Combo) (a : Action) → is_allowed g a ≡ true → is_listed g a ≡ false → next_combo combo a ≡ NoCombo
rest-combo g combo BasicTouch allowed rest = absurd (clash allowed (grind arith))
rest-combo g combo Observe allowed rest = absurd (clash allowed rest)
rest-combo g Basic StandardTouch allowed rest = absurd (clash allowed (grind arith))
rest-combo g combo BasicSynthesis allowed rest = refl
rest-combo g combo _ allowed rest = refl

rest-need : (g : SettingsFields) (s : StateFields) (a : Action) → is_allowed g a ≡ true → is_listed g a ≡ false → opens a ≡ false → g.progress - s.progress ≤ g.progress - (step_of g s a).progress
rest-need g s a allowed rest later =
    let parts = step-parts g s a in
    let same : progress_after g s a ≡ s.progress = if_none (row_of a g.level).progress _ _ (rest-progress g a allowed (listed-relaxed g a rest) later) in
    omega (arith, parts.0, same)

-- what a rest leaves can do no more
pub seen-rest : (g : SettingsFields) (units : Units) (s : StateFields) (a : Action) → AreUnits units → GoesLater g s a → is_listed g a ≡ false →
    IsNoAbler (seen_of g units (step_of g s a)) (seen_of g units s)
unfolding seen_of relax_of
seen-rest g units s a are later rest =
    let law = rest-law g 1 s a (as-later g s a later) (listed-relaxed g a rest) in
    let allowed = allowed-now g s a (legal_facts g s a later.step.legal) in
    record {
      plain = record {
        bucket = ceiling-more _ _ units.progress are.progress (mul-le _ units.share _ units.share (rest-need g s a allowed rest (opens-later g s a later)) (omega arith));
        iq = law.iq;
        innovation = law.innovation;
        veneration = law.veneration;
        strides = law.strides;
        muscle = law.muscle;
      };
      combo = inl (step-combo g s a later.step ∙ rest-combo g s.effects.combo a allowed rest);
      begun = begun-rest g s a allowed rest (opens-later g s a later);
    }

-- the quality of the next state, in units
pub step-quality : (g : SettingsFields) (units : Units) (s : StateFields) (a : Action) → AreUnits units → opens a ≡ false →
    (step_of g s a).quality ≤ s.quality + units.quality * gain_of g units (seen_of g units s) a
unfolding seen_of relax_of gain_of relaxed.move_gain_of
step-quality g units s a are later =
    let parts = step-parts g s a in
    let gained = quality-le g 1 s a later in
    omega (arith, parts.1, gained, ceiling-covers (relaxed.move_gain_of g (plain (seen_of g units s)) a) units.quality are.quality)

pub rest-quality : (g : SettingsFields) (s : StateFields) (a : Action) → is_allowed g a ≡ true → is_listed g a ≡ false → opens a ≡ false →
    (step_of g s a).quality ≤ s.quality
rest-quality g s a allowed rest later =
    let parts = step-parts g s a in
    let gained = quality-le g 1 s a later in
    omega (arith, parts.1, gained, rest-gain g (relax_of g 1 s) a allowed (listed-relaxed g a rest) later)
