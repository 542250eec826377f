-- What makes prices fair, and the ranges of products.
use Rattle.std.proofs.Common.{ℕ, true, ◌≡◌, ◌≤◌, ◌<◌, ◌⊎◌, inl, inr, ◌+◌, ◌*◌, ◌/◌, max, arith}
use Rattle.std.proofs.lemmas.Nat.{div-add-mod', mul-le, le-div}
use Rattle.std.proofs.Math.Nat.{mul-le-mul_left}
use Rattle.action_table.specs.declared.action.Action.{Action}
use Rattle.action_table.specs.declared.action.Action.TheVariants.{BasicSynthesis, Observe, StandardTouch, AdvancedTouch}
use Rattle.action_table.specs.Table.{row_of}
use Rattle.craft_state.specs.declared.Combo.{Combo}
use Rattle.craft_settings.specs.Ranges.{SettingsFields}
use Rattle.relaxed_moves.specs.Budget.{wear_cost}
use Rattle.priced_moves.specs.declared.kinds.Prices.{Prices}
use Rattle.priced_moves.specs.Moves.{is_listed, cp_of}
use Rattle.priced_moves.specs.Prices.{raw_price, price_of}

-- a quotient times its divisor
pub quotient_times : (m n r : ℕ) → r ≤ m / n → r * n ≤ m
quotient_times m n r h =
    let a : r * n ≤ m / n * n = mul-le r n (m / n) n h (omega arith) in
    omega (arith, div-add-mod' m n)

pub quotient_low : (cp step n : ℕ) → 0 < n → n ≤ 19 → cp ≤ (112 * cp + step) / n
quotient_low cp step n positive few =
    let a : cp * n ≤ cp * 19 = mul-le-mul_left cp few in
    le-div cp (112 * cp + step) n positive (omega arith)

-- a number whose product is in reach is no more than the quotient
pub quotient_most : (m n k : ℕ) → 0 < n → m * n ≤ k → m ≤ k / n
quotient_most m n k positive enough = le-div m k n positive enough

pub ruleset quotients = (quotient_times, quotient_low, quotient_most)

pub times_5 : (five n : ℕ) → five ≤ 25000 → n ≤ 28 → five * n ≤ 700000
times_5 five n h k = mul-le five n 25000 28 h k

pub times_waste : (waste n : ℕ) → waste ≤ 40000 → n ≤ 8 → waste * n ≤ 320000
times_waste waste n h k = mul-le waste n 40000 8 h k

pub times_cp : (cp n : ℕ) → cp ≤ 1000 → n ≤ 1000 → cp * n ≤ 1000000
times_cp cp n h k = mul-le cp n 1000 1000 h k

pub times_step : (step n : ℕ) → step ≤ 10000 → n ≤ 300 → step * n ≤ 3000000
times_step step n h k = mul-le step n 10000 300 h k

pub ruleset products = (times_5, times_waste, times_cp, times_step)

-- a move costs CP, or ten points of durability
some-cost : (g : SettingsFields) (combo : Combo) (a : Action) (five waste : ℕ) → is_listed g a ≡ true →
    (1 ≤ cp_of g combo a) ⊎ (five ≤ wear_cost five waste ((row_of a g.level).durability / 5))
some-cost g combo BasicSynthesis five waste listed = inr (omega arith)
some-cost g combo StandardTouch five waste listed = inl (grind arith)
some-cost g combo AdvancedTouch five waste listed = inl (grind arith)
some-cost g combo Observe five waste listed = inl (omega arith)
some-cost g combo _ five waste listed = inl (grind arith)

raw-by : (alpha rho step coin cost wear : ℕ) → coin ≤ max alpha step → alpha ≤ rho → (1 ≤ cost) ⊎ (rho ≤ wear) → coin * 1 ≤ alpha * cost + wear + step
raw-by alpha rho step coin cost wear high some (inl paid) = let a : alpha * 1 ≤ alpha * cost = mul-le-mul_left alpha paid in omega arith
raw-by alpha rho step coin cost wear high some (inr worn) = omega arith

-- each move has a price
pub price-some : (p : Prices) (g : SettingsFields) (combo : Combo) (a : Action) → 1 ≤ p.coin → p.coin ≤ max p.cp p.step → p.cp ≤ p.five → is_listed g a ≡ true → 1 ≤ price_of p g combo a
unfolding price_of
price-some p g combo a coin high some listed =
    let raw = raw-by p.cp p.five p.step p.coin (cp_of g combo a) (wear_cost p.five p.waste ((row_of a g.level).durability / 5)) high some (some-cost g combo a p.five p.waste listed) in
    le-div 1 (raw_price p g combo a) p.coin coin (omega (arith, raw))
