-- The places of states.
use Rattle.std.proofs.Common.{◌≡◌, sym, ℕ, ◌+◌, ◌-◌, ◌*◌, ◌/◌, ◌<◌, ◌≤◌, Bool, true, false, if◌then◌else◌, arith, subst, min, nat_lt}
use Rattle.std.proofs.lemmas.Nat.{le-div, div-add-mod'}
use Rattle.action_table.specs.declared.action.Action.{Action}
use Rattle.action_table.specs.Table.{row_of}
use Rattle.craft_numbers.specs.Gains.{progress_gain_of}
use Rattle.craft_state.specs.declared.Perfection.{Perfection}
use Rattle.craft_state.specs.declared.Perfection.TheVariants.{Ready, On, Spent}
use Rattle.craft_state.specs.Craft.{StateFields}
use Rattle.craft_settings.specs.Ranges.{SettingsFields}
use Rattle.step_rules.specs.Legality.{is_legal, IsWithin}
use Rattle.step_rules.specs.Measure.{measure, perfection_worth}
use Rattle.step_rules.specs.Step.{step_of, progress_efficiency}
use Rattle.step_rules.proofs.MeasureFalls.{measure_falls}
use Rattle.admissible.proofs.Limits.{step-parts}
use Rattle.quality_sweep.specs.Places.{place_of, places_of}

worth-most : (p : Perfection) → perfection_worth p ≤ 8
worth-most Ready = omega arith
worth-most On = omega arith
worth-most Spent = omega arith

pub measure-most : (g : SettingsFields) (s : StateFields) → IsWithin g s → measure s ≤ 1120
measure-most g s within =
    let cp : s.cp ≤ 1000 = within.state.cp in
    let durability : s.durability ≤ 100 = within.state.durability in
    let upkeep : s.effects.manipulation ≤ 8 = within.effects.manipulation in
    let worth = worth-most s.effects.perfection in
    omega (arith, cp, durability, upkeep, worth)

grows : (b : Bool) (p x q : ℕ) → p ≤ q → p ≤ (if b then min q (p + x) else p)
grows true p x q h = omega arith
grows false p x q h = omega arith

pub progress-grows : (g : SettingsFields) (s : StateFields) (a : Action) → IsWithin g s → s.progress ≤ (step_of g s a).progress
progress-grows g s a within =
    let parts = step-parts g s a in
    subst (λ (n : ℕ). s.progress ≤ n) (sym parts.0)
    (grows (nat_lt 0 (row_of a g.level).progress) s.progress (progress_gain_of g.base_progress (progress_efficiency g s a) (nat_lt 0 s.effects.veneration) (nat_lt 0 s.effects.muscle)) g.progress within.progress)

pub div-grows : (w p q : ℕ) → 1 ≤ w → p ≤ q → p / w ≤ q / w
div-grows w p q some h = le-div (p / w) q w some (omega (arith, div-below w p some))
  where
    div-below : (w p : ℕ) → 1 ≤ w → p / w * w ≤ p
    div-below w p some = omega (arith, div-add-mod' p w)

spaced : (a b m n : ℕ) → a ≤ b → n + 4 ≤ m → m ≤ 1120 → a * 281 + (280 - m / 4) < b * 281 + (280 - n / 4)
spaced a b m n h falls most = omega arith

-- a step leads to a later place
pub place-later : (g : SettingsFields) (w : ℕ) (s : StateFields) (a : Action) → 1 ≤ w → IsWithin g s → is_legal g s a ≡ true → place_of w s < place_of w (step_of g s a)
place-later g w s a some within legal =
    spaced (s.progress / w) ((step_of g s a).progress / w) (measure s) (measure (step_of g s a))
    (div-grows w s.progress (step_of g s a).progress some (progress-grows g s a within)) (measure_falls g s a within legal) (measure-most g s within)

inside : (a b m : ℕ) → a ≤ b → a * 281 + (280 - m / 4) < (b + 1) * 281
inside a b m h = omega arith

-- each state of the craft has one of the places
pub place-inside : (g : SettingsFields) (w : ℕ) (s : StateFields) → 1 ≤ w → IsWithin g s → place_of w s < places_of w g
place-inside g w s some within = inside (s.progress / w) (g.progress / w) (measure s) (div-grows w s.progress g.progress some within.progress)
