-- The optimum as a maximum over all lists, of any length.
use Rattle.std.proofs.Common.{ℕ, Bool, true, false, List, [], ◌∷◌, Option, Some, None, ◌≡◌, ◌≤◌, length, refl, ◌∙◌, sym, subst, arith, if◌then◌else◌}
use Rattle.action_table.specs.declared.action.Action.{Action}
use Rattle.craft_settings.specs.Ranges.{SettingsFields}
use Rattle.relaxed_moves.specs.Moves.{RelaxedFields}
use Rattle.relaxed_moves.specs.Optimum.{is_plan, worth, gains_of, total, one, option_le, ArePriced, best_plan, IsMostGained, IsGreatestGain}
use Rattle.relaxed_moves.proofs.Greatest.{option_le-antisym}
use Rattle.relaxed_moves.proofs.Plans.{best_plan-upper, best_plan-attained}

-- with the price one the total is the number of moves
pub total-one : (m : List Action) → total one m ≡ length m
total-one [] = refl
total-one (a ∷ m) = omega (arith, total-one m)

no_plan : (b : Bool) (n : ℕ) → option_le (if b then Some n else None) None → b ≡ false
no_plan true n h = absurd h
no_plan false n h = refl

plan_by : (b : Bool) (n v : ℕ) → (if b then Some n else None) ≡ Some v → (b ≡ true) × (n ≡ v)
plan_by true n v e = (refl, grind arith)
plan_by false n v e = absurd (cc)

below_by : (b : Bool) (n v : ℕ) → b ≡ true → option_le (if b then Some n else None) (Some v) → n ≤ v
below_by true n v e h = h
below_by false n v e h = absurd (cc)

most_by : (price : Action → ℕ) (g : SettingsFields) (grain budget : ℕ) (x : RelaxedFields) (v : ℕ) → ArePriced price g →
    best_plan price g grain budget x ≡ Some v → IsMostGained price g grain budget x v
unfolding worth
most_by price g grain budget x v priced e =
    let found = best_plan-attained price g grain budget x v e in
    let parts : (is_plan price g grain budget x found.0 ≡ true) × (gains_of g grain x found.0 ≡ v) = plan_by (is_plan price g grain budget x found.0) (gains_of g grain x found.0) v found.1 in
    record {
      moves = found.0;
      plan = parts.0;
      gains = parts.1;
      no_more = λ m h. below_by (is_plan price g grain budget x m) (gains_of g grain x m) v h (subst (λ o. option_le (worth price g grain budget x m) o) e (best_plan-upper price g grain budget x m priced));
    }

greatest_by : (price : Action → ℕ) (g : SettingsFields) (grain budget : ℕ) (x : RelaxedFields) (o : Option ℕ) → ArePriced price g →
    best_plan price g grain budget x ≡ o → IsGreatestGain price g grain budget x o
unfolding worth
greatest_by price g grain budget x None priced e = λ m.
    no_plan (is_plan price g grain budget x m) (gains_of g grain x m) (subst (λ o. option_le (worth price g grain budget x m) o) e (best_plan-upper price g grain budget x m priced))
greatest_by price g grain budget x (Some v) priced e = most_by price g grain budget x v priced e

-- the definition is the greatest gain over lists of any length
pub IsGreatestGain-best_plan : (price : Action → ℕ) (g : SettingsFields) (grain budget : ℕ) (x : RelaxedFields) → ArePriced price g →
    IsGreatestGain price g grain budget x (best_plan price g grain budget x)
IsGreatestGain-best_plan price g grain budget x priced = greatest_by price g grain budget x (best_plan price g grain budget x) priced refl

-- and nothing else is
unique_by : (price : Action → ℕ) (g : SettingsFields) (grain budget : ℕ) (x : RelaxedFields) (a b : Option ℕ) →
    IsGreatestGain price g grain budget x a → IsGreatestGain price g grain budget x b → option_le a b
unique_by price g grain budget x None b h k = tt
unique_by price g grain budget x (Some a) None h k = let e : true ≡ false = sym h.plan ∙ k h.moves in absurd (cc)
unique_by price g grain budget x (Some a) (Some b) h k = omega (arith, k.no_more h.moves h.plan, h.gains)

pub best_plan-unique : (price : Action → ℕ) (g : SettingsFields) (grain budget : ℕ) (x : RelaxedFields) (a : Option ℕ) → ArePriced price g →
    IsGreatestGain price g grain budget x a → a ≡ best_plan price g grain budget x
best_plan-unique price g grain budget x a priced h =
    let is = IsGreatestGain-best_plan price g grain budget x priced in
    option_le-antisym _ _ (unique_by price g grain budget x _ _ h is) (unique_by price g grain budget x _ _ is h)
