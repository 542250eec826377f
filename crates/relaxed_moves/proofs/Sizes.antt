-- An optimum fits its word.
use Rattle.std.proofs.Common.{ℕ, Bool, true, false, List, [], ◌∷◌, Some, None, ◌≡◌, ◌≤◌, ◌+◌, ◌*◌, ◌==◌, nat_lt, length, refl, arith, if◌then◌else◌}
use Rattle.std.proofs.Math.Nat.{mul-le-mul}
use Rattle.action_table.specs.declared.action.Action.{Action}
use Rattle.action_table.specs.declared.action.Action.TheVariants.{ByregotsBlessing}
use Rattle.action_table.specs.Table.{row_of}
use Rattle.craft_numbers.specs.Gains.{bonus_of, quality_gain_of}
use Rattle.combo_effects.specs.Touches.{quality_efficiency}
use Rattle.craft_settings.specs.Ranges.{SettingsFields, AreSettings}
use Rattle.relaxed_moves.specs.Moves.{RelaxedFields, AreRelaxed, move_gain_of, move_on_of}
use Rattle.relaxed_moves.specs.Optimum.{are_moves, last_of, gains_of, total, is_plan, worth, ArePriced, best_plan, option_le}
use Rattle.relaxed_moves.proofs.Plans.{length_paid, affordable, best_plan-least}
use Rattle.relaxed_moves.proofs.Order.{AreRelaxed-move_on}

efficiency_small : (g : SettingsFields) (n : ℕ) (a : Action) → n ≤ 10 → quality_efficiency g.level n a ≤ 400
efficiency_small g n ByregotsBlessing h = omega arith
efficiency_small g n _ h = omega arith

bonus_small : (b : Bool) (p : ℕ) → bonus_of b p ≤ p
bonus_small true p = omega arith
bonus_small false p = omega arith

gain_by : (base q iq : ℕ) (v w : Bool) → base ≤ 5000 → q ≤ 400 → iq ≤ 10 → quality_gain_of base q iq v w ≤ 100000
gain_by base q iq v w hb hq hi =
    let percent : 100 + bonus_of v 50 + bonus_of w 100 ≤ 250 = omega (arith, bonus_small v 50, bonus_small w 100) in
    let whole : 100 + 10 * iq ≤ 200 = omega arith in
    let product : base * q * (100 + 10 * iq) * (100 + bonus_of v 50 + bonus_of w 100) ≤ 5000 * 400 * 200 * 250 = mul-le-mul (mul-le-mul (mul-le-mul hb hq) whole) percent in
    omega arith

if_small : (c : Bool) (n : ℕ) → n ≤ 100000 → (if c then n else 0) ≤ 100000
if_small true n h = h
if_small false n h = omega arith

gain_small : (g : SettingsFields) (x : RelaxedFields) (a : Action) → AreSettings g → AreRelaxed x → move_gain_of g x a ≤ 100000
unfolding move_gain_of
gain_small g x a settings bounds =
    if_small (nat_lt 0 (row_of a g.level).quality) _ (gain_by g.base_quality (quality_efficiency g.level x.iq a) x.iq _ _ settings.base_quality.high (efficiency_small g x.iq a bounds.iq) bounds.iq)

gains_small : (g : SettingsFields) (grain : ℕ) (x : RelaxedFields) (m : List Action) → AreSettings g → AreRelaxed x → gains_of g grain x m ≤ 100000 * length m
gains_small g grain x [] settings bounds = omega arith
gains_small g grain x (a ∷ m) settings bounds =
    omega (arith, gain_small g x a settings bounds, gains_small g grain (move_on_of g grain x a) m settings (AreRelaxed-move_on g grain x a bounds))

worth_small : (price : Action → ℕ) (g : SettingsFields) (grain budget : ℕ) (x : RelaxedFields) (m : List Action) → ArePriced price g → AreSettings g → AreRelaxed x →
    option_le (worth price g grain budget x m) (Some (100000 * budget))
unfolding worth
worth_small price g grain budget x m priced settings bounds =
    elim (is_plan price g grain budget x m) as (λ b. is_plan price g grain budget x m ≡ b → option_le (if b then Some (gains_of g grain x m) else None) (Some (100000 * budget))) [
      | true ↦ λ e.
          let parts : (are_moves g grain x m ≡ true) × (total price m ≤ budget) = affordable (total price m) budget (are_moves g grain x m) ((last_of g grain x m).bucket == 0) e in
          let short = length_paid price g grain x m priced parts.0 in
          omega (arith, gains_small g grain x m settings bounds, short, parts.1)
      | false ↦ λ e. tt
    ] refl

-- an optimum is at most 100000 for each of its budget
pub best_plan-small : (price : Action → ℕ) (g : SettingsFields) (grain budget : ℕ) (x : RelaxedFields) → ArePriced price g → AreSettings g → AreRelaxed x →
    option_le (best_plan price g grain budget x) (Some (100000 * budget))
best_plan-small price g grain budget x priced settings bounds = best_plan-least price g grain budget x _ (λ m. worth_small price g grain budget x m priced settings bounds)
