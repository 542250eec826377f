-- The base quality changes the quality of a state and nothing else.
use Rattle.std.proofs.Common.{◌≡◌, ◌∙◌, sym, ◌≤◌, ◌*◌, ℕ, Bool, true, false, arith, refl, ap, if◌then◌else◌, List, [], ◌∷◌, Some, None, ◌+◌, nat_lt, le_refl, min}
use Rattle.std.proofs.Math.Nat.{mul-le-mul_right}
use Rattle.action_table.specs.declared.action.Action.{Action}
use Rattle.action_table.specs.declared.action.Action.TheVariants.{Groundwork, TrainedEye, MastersMend, ImmaculateMend}
use Rattle.action_table.specs.Table.{row_of}
use Rattle.craft_numbers.specs.Gains.{quality_gain_of, bonus_of}
use Rattle.craft_state.specs.Craft.{EffectFields, StateFields}
use Rattle.craft_settings.specs.Ranges.{SettingsFields}
use Rattle.combo_effects.specs.Touches.{quality_efficiency}
use Rattle.step_rules.specs.Legality.{start_of, reason_of, is_legal, is_over}
use Rattle.step_rules.specs.Step.{progress_efficiency, quality_after, mend, acted_of, settled_of, step_of}
use Rattle.step_rules.specs.Run.{run_of}
use Rattle.stat_sweep.specs.Bases.{with_base, EndsNoLess}

-- the state with this quality in place of its own
abbrev pub with_quality : StateFields → ℕ → StateFields
with_quality s quality = record s { quality = quality }

legal-base : (g : SettingsFields) (base quality : ℕ) (s : StateFields) (a : Action) →
    is_legal (with_base g base) (with_quality s quality) a ≡ is_legal g s a
unfolding reason_of
legal-base g base quality s a = refl

efficiency-base : (g : SettingsFields) (base quality : ℕ) (s : StateFields) (a : Action) →
    progress_efficiency (with_base g base) (with_quality s quality) a ≡ progress_efficiency g s a
efficiency-base g base quality s Groundwork = refl
efficiency-base g base quality s _ = refl

mend-base : (g : SettingsFields) (base : ℕ) (a : Action) → mend (with_base g base) a ≡ mend g a
mend-base g base MastersMend = refl
mend-base g base ImmaculateMend = refl
mend-base g base _ = refl

acted-base : (g : SettingsFields) (base quality : ℕ) (s : StateFields) (a : Action) →
    acted_of (with_base g base) (with_quality s quality) a
    ≡ with_quality (acted_of g s a) (quality_after (with_base g base) (with_quality s quality) a)
unfolding acted_of
acted-base g base quality s a = rw (efficiency-base g base quality s a) refl

settled-base : (g : SettingsFields) (base quality : ℕ) (before : EffectFields) (s : StateFields) (a : Action) →
    settled_of (with_base g base) before a (with_quality s quality) ≡ with_quality (settled_of g before a s) quality
unfolding settled_of
settled-base g base quality before s a = rw (mend-base g base a) refl

with_quality-choice : (b : Bool) (x y : StateFields) (quality : ℕ) →
    (if b then with_quality x quality else with_quality y quality) ≡ with_quality (if b then x else y) quality
with_quality-choice true x y quality = refl
with_quality-choice false x y quality = refl

step-base : (g : SettingsFields) (base quality : ℕ) (s : StateFields) (a : Action) →
    step_of (with_base g base) (with_quality s quality) a
    ≡ with_quality (step_of g s a) (quality_after (with_base g base) (with_quality s quality) a)
unfolding step_of
step-base g base quality s a =
    let after = quality_after (with_base g base) (with_quality s quality) a in
    let acted = acted_of g s a in
    ap (λ (t : StateFields). if is_over (with_base g base) t then t else settled_of (with_base g base) s.effects a t) (acted-base g base quality s a)
    ∙ ap (λ (t : StateFields). if is_over g acted then with_quality acted after else t) (settled-base g base after s.effects acted a)
    ∙ with_quality-choice (is_over g acted) acted (settled_of g s.effects a acted) after

gain-more : (less more q iq : ℕ) (innovation strides : Bool) → less ≤ more →
    quality_gain_of less q iq innovation strides ≤ quality_gain_of more q iq innovation strides
gain-more less more q iq innovation strides h =
    let first = mul-le-mul_right q h in
    let second = mul-le-mul_right (100 + 10 * iq) first in
    let third = mul-le-mul_right (100 + bonus_of innovation 50 + bonus_of strides 100) second in
    omega (arith, third)

capped-more : (b : Bool) (most q r x y : ℕ) → q ≤ r → x ≤ y → (if b then min most (q + x) else q) ≤ (if b then min most (r + y) else r)
capped-more true most q r x y h k = omega arith
capped-more false most q r x y h k = h

quality-more : (g : SettingsFields) (less more q r : ℕ) (s : StateFields) (a : Action) → less ≤ more → q ≤ r →
    quality_after (with_base g less) (with_quality s q) a ≤ quality_after (with_base g more) (with_quality s r) a
quality-more g less more q r s TrainedEye h k = omega arith
quality-more g less more q r s a h k =
    capped-more (nat_lt 0 (row_of a g.level).quality) g.quality q r _ _ k
    (gain-more less more (quality_efficiency g.level s.effects.iq a) s.effects.iq (nat_lt 0 s.effects.innovation) (nat_lt 0 s.effects.strides) h)

-- the list is legal with another base quality too, and ends in a state that differs in quality alone
pub record EndsAlike (g : SettingsFields) (base other : ℕ) (s : StateFields) (m : List Action) (last : StateFields) : Type 0 where
  pub quality : ℕ
  pub ends : run_of (with_base g other) s m ≡ Some (with_quality last quality)
  pub more : base ≤ other → last.quality ≤ quality

run-base : (g : SettingsFields) (base other q r : ℕ) (s : StateFields) (m : List Action) (last : StateFields) → (base ≤ other → q ≤ r) →
    run_of (with_base g base) (with_quality s q) m ≡ Some last → EndsAlike g base other (with_quality s r) m last
run-base g base other q r s [] last order ran =
    let is : with_quality s q ≡ last = cc in
    record {
      quality = r;
      ends = ap (λ (t : StateFields). Some (with_quality t r)) is;
      more = λ h. omega (arith, order h, ap (λ (t : StateFields). t.quality) is);
    }
run-base g base other q r s (a ∷ m) last order ran =
    let next = step_of (with_base g base) (with_quality s q) a in
    elim (is_legal g s a) as (λ b. is_legal g s a ≡ b → EndsAlike g base other (with_quality s r) (a ∷ m) last) [
      | false ↦ λ illegal.
          let none : run_of (with_base g base) (with_quality s q) (a ∷ m) ≡ None =
          ap (λ b. if b then run_of (with_base g base) next m else None) (legal-base g base q s a ∙ illegal) in
          absurd (cc (none, ran))
      | true ↦ λ legal.
          let tail : run_of (with_base g base) next m ≡ Some last =
          sym (ap (λ b. if b then run_of (with_base g base) next m else None) (legal-base g base q s a ∙ legal)) ∙ ran in
          let rest : run_of (with_base g base) (with_quality (step_of g s a) (quality_after (with_base g base) (with_quality s q) a)) m ≡ Some last =
          ap (λ (t : StateFields). run_of (with_base g base) t m) (sym (step-base g base q s a)) ∙ tail in
          let alike = run-base g base other (quality_after (with_base g base) (with_quality s q) a) (quality_after (with_base g other) (with_quality s r) a) (step_of g s a) m last
          (λ h. quality-more g base other q r s a h (order h)) rest in
          record {
            quality = alike.quality;
            ends =
                ap (λ b. if b then run_of (with_base g other) (step_of (with_base g other) (with_quality s r) a) m else None) (legal-base g other r s a ∙ legal)
                ∙ ap (λ (t : StateFields). run_of (with_base g other) t m) (step-base g other r s a)
                ∙ alike.ends;
            more = alike.more;
          }
    ] refl

pub ends_alike : (g : SettingsFields) (base other : ℕ) (m : List Action) (last : StateFields) →
    run_of (with_base g base) (start_of g) m ≡ Some last → EndsAlike g base other (start_of g) m last
ends_alike g base other m last ran =
    let quality = (start_of g).quality in
    run-base g base other quality quality (start_of g) m last (λ _. le_refl quality) ran

pub ends_no_less : (g : SettingsFields) (less more : ℕ) (m : List Action) (s : StateFields) → less ≤ more →
    run_of (with_base g less) (start_of g) m ≡ Some s → EndsNoLess (with_base g more) m s
ends_no_less g less more m s h ran =
    let alike = ends_alike g less more m s ran in
    record { quality = alike.quality; ends = alike.ends; more = alike.more h }
