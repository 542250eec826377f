-- What the words hold fits them.
use Rattle.std.proofs.Common.{ℕ, Option, Some, None, ◌≡◌, ◌≤◌, ◌<◌, ◌+◌, ◌*◌, ◌/◌, ◌^◌, subst, arith}
use Rattle.std.proofs.lemmas.Nat.{mul-le, div_below}
use Rattle.craft_state.specs.Craft.{StateFields, AreEffects}
use Rattle.craft_settings.specs.Ranges.{SettingsFields, AreSettings}
use Rattle.race_core.specs.Codes.{Fits32}
use Rattle.step_rules.specs.Macro.{IsReached}
use Rattle.relaxed_moves.specs.Columns.{coded}
use Rattle.relaxed_moves.specs.Moves.{RelaxedFields, AreRelaxed, relax_of}
use Rattle.relaxed_moves.specs.Optimum.{option_le}
use Rattle.relaxed_moves.specs.Places.{first_at, state_at}
use Rattle.relaxed_moves.specs.declared.places.TheConstants.{MOST_BUDGET, MOST_MOVES}
use Rattle.relaxed_moves.proofs.Sizes.{best_plan-small}
use Rattle.relaxed_moves.proofs.Indices.{AreRelaxed-state_at}
use Rattle.table_bound.specs.Bounds.{BoundRules, AreBoundRules, optimum, entry_by, size_by, entry_at}

-- the greatest number of moves is no greater than the greatest budget
pub moves_fit : MOST_MOVES ≤ MOST_BUDGET
moves_fit = omega arith

pub size_fits : (r : BoundRules) → AreBoundRules r → size_by r < 2 ^ 32
size_fits r rules =
    let product : (r.most + 1) * (r.grain + 1) ≤ 1379 * 65 = mul-le (r.most + 1) (r.grain + 1) 1379 65 (omega (arith, rules.most)) (omega (arith, rules.grain.high)) in
    omega arith

pub optimum_small : (r : BoundRules) (budget : ℕ) (x : RelaxedFields) → AreBoundRules r → AreRelaxed x → option_le (optimum r budget x) (Some (100000 * budget))
optimum_small r budget x rules bounds = best_plan-small r.price r.g r.grain budget x rules.priced rules.settings bounds

fits_by : (o : Option ℕ) (n : ℕ) → n < 2 ^ 32 → option_le o (Some n) → Fits32 (entry_by o)
fits_by None n small h = tt
fits_by (Some a) n small h = omega arith

first_small : (r : BoundRules) (index : ℕ) → AreBoundRules r → index < size_by r → first_at r.grain index ≤ 1378
first_small r index rules below =
    let product : (r.most + 1) * (r.grain + 1) ≤ 1379 * (r.grain + 1) = mul-le (r.most + 1) (r.grain + 1) 1379 (r.grain + 1) (omega (arith, rules.most)) (omega arith) in
    let outer : index / 1100 < 1379 * (r.grain + 1) = omega arith in
    let first : index / 1100 / (r.grain + 1) < 1379 = div_below (index / 1100) (r.grain + 1) 1379 (omega arith) outer in
    omega arith

pub entry_fits : (r : BoundRules) → AreBoundRules r → (index : ℕ) → index < size_by r → Fits32 (entry_at r index)
entry_fits r rules index below =
    fits_by _ (100000 * first_at r.grain index) (omega (arith, first_small r index rules below))
    (optimum_small r (first_at r.grain index) (state_at r.grain index) rules (AreRelaxed-state_at r.grain index))

pub reached_fits : (g : SettingsFields) → AreSettings g → (quality : ℕ) → IsReached g quality → quality < 2 ^ 32
reached_fits g settings quality reached = omega (arith, reached.same, settings.quality)

coded_by : (o : Option ℕ) (n : ℕ) → option_le o (Some n) → coded o ≤ 1 + n
coded_by None n h = omega arith
coded_by (Some a) n h = omega arith

-- a number of a row is small enough for one more gain
pub coded_small : (r : BoundRules) (budget : ℕ) (x : RelaxedFields) → AreBoundRules r → AreRelaxed x → budget ≤ r.most → coded (optimum r budget x) ≤ 137800001
coded_small r budget x rules bounds within =
    let top : coded (optimum r budget x) ≤ 1 + 100000 * budget = coded_by _ _ (optimum_small r budget x rules bounds) in
    omega (arith, top, rules.most)

within_by : (o : Option ℕ) (n v : ℕ) → option_le o (Some n) → o ≡ Some v → v ≤ n
within_by o n v h e = subst (λ p. option_le p (Some n)) e h

-- the quality with one more gain fits
pub gain_fits : (r : BoundRules) (budget v quality : ℕ) (x : RelaxedFields) → AreBoundRules r → AreRelaxed x → budget ≤ r.most → quality ≤ 100000
    → optimum r budget x ≡ Some v → quality + v < 2 ^ 32
gain_fits r budget v quality x rules bounds within low is =
    let top : v ≤ 100000 * budget = within_by _ _ _ (optimum_small r budget x rules bounds) is in
    omega (arith, top, within, low, rules.most)
