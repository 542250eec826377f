-- The greatest gain over plans: it is at least that of each plan, one plan has it, and how it follows from the first move.
use Rattle.std.proofs.Common.{ℕ, Bool, true, false, List, [], ◌∷◌, Option, Some, None, ◌≡◌, ◌≤◌, ◌+◌, ◌-◌, ◌&&◌, ◌==◌, nat_le, length, refl, ◌∙◌, ap, subst, arith, if◌then◌else◌}
use Rattle.plain_lemmas.proofs.Tests.{and_both}
use Rattle.std.specs.Option.{option_map}
use Rattle.action_table.specs.declared.action.Action.{Action}
use Rattle.craft_settings.specs.Ranges.{SettingsFields}
use Rattle.relaxed_moves.specs.Moves.{RelaxedFields, is_move_of, move_gain_of, move_on_of}
use Rattle.relaxed_moves.specs.Optimum.{are_moves, last_of, gains_of, total, is_plan, worth, option_le, greatest, ArePriced, best_plan}
use Rattle.relaxed_moves.proofs.Greatest.{greatest-upper, greatest-least, greatest-attained}

pub length_paid : (price : Action → ℕ) (g : SettingsFields) (grain : ℕ) (x : RelaxedFields) (m : List Action) → ArePriced price g →
    are_moves g grain x m ≡ true → length m ≤ total price m
length_paid price g grain x [] priced h = omega arith
length_paid price g grain x (a ∷ m) priced h =
    let parts : (is_move_of g x a ≡ true) × (are_moves g grain (move_on_of g grain x a) m ≡ true) = and_both (is_move_of g x a) (are_moves g grain (move_on_of g grain x a) m) h in
    omega (arith, priced.each x a parts.0, length_paid price g grain (move_on_of g grain x a) m priced parts.1)

pub affordable : (a b : ℕ) (c d : Bool) → (c && (nat_le a b && d)) ≡ true → (c ≡ true) × (a ≤ b)
affordable a b c d h = grind arith

some_by : (b : Bool) (n v : ℕ) → (if b then Some n else None) ≡ Some v → b ≡ true
some_by true n v h = refl
some_by false n v h = cc

pub best_plan-upper : (price : Action → ℕ) (g : SettingsFields) (grain budget : ℕ) (x : RelaxedFields) (m : List Action) → ArePriced price g →
    option_le (worth price g grain budget x m) (best_plan price g grain budget x)
unfolding worth best_plan
best_plan-upper price g grain budget x m priced =
    elim (is_plan price g grain budget x m) as (λ b. is_plan price g grain budget x m ≡ b → option_le (if b then Some (gains_of g grain x m) else None) (greatest (worth price g grain budget x) budget)) [
      | true ↦ λ e.
          let parts : (are_moves g grain x m ≡ true) × (total price m ≤ budget) = affordable (total price m) budget (are_moves g grain x m) ((last_of g grain x m).bucket == 0) e in
          let short = length_paid price g grain x m priced parts.0 in
          let up = greatest-upper budget (worth price g grain budget x) m (omega (arith, parts.1, short)) in
          subst (λ b. option_le (if b then Some (gains_of g grain x m) else None) (greatest (worth price g grain budget x) budget)) e up
      | false ↦ λ e. tt
    ] refl

pub best_plan-least : (price : Action → ℕ) (g : SettingsFields) (grain budget : ℕ) (x : RelaxedFields) (r : Option ℕ) →
    ((m : List Action) → option_le (worth price g grain budget x m) r) → option_le (best_plan price g grain budget x) r
unfolding best_plan
best_plan-least price g grain budget x r h = greatest-least budget (worth price g grain budget x) r h

pub best_plan-attained : (price : Action → ℕ) (g : SettingsFields) (grain budget : ℕ) (x : RelaxedFields) (v : ℕ) →
    best_plan price g grain budget x ≡ Some v → (m : List Action) × (worth price g grain budget x m ≡ Some v)
unfolding best_plan
best_plan-attained price g grain budget x v e = greatest-attained budget (worth price g grain budget x) v e

-- the worth of a list by its first move
first_paid : (m ok z : Bool) (p t b : ℕ) → ((m && ok) && (nat_le (p + t) b && z)) ≡ ((m && nat_le p b) && (ok && (nat_le t (b - p) && z)))
first_paid m ok z p t b = grind arith

split_worth : (c d : Bool) (gain rest : ℕ) → (if c && d then Some (gain + rest) else None) ≡ (if c then option_map (λ n. gain + n) (if d then Some rest else None) else None)
split_worth true true gain rest = refl
split_worth true false gain rest = refl
split_worth false d gain rest = refl

pub worth-cons : (price : Action → ℕ) (g : SettingsFields) (grain budget : ℕ) (x : RelaxedFields) (a : Action) (m : List Action) →
    worth price g grain budget x (a ∷ m)
    ≡ (if is_move_of g x a && nat_le (price a) budget then option_map (λ n. move_gain_of g x a + n) (worth price g grain (budget - price a) (move_on_of g grain x a) m) else None)
unfolding worth
worth-cons price g grain budget x a m =
    ap (λ b. if b then Some (move_gain_of g x a + gains_of g grain (move_on_of g grain x a) m) else None)
    (first_paid (is_move_of g x a) (are_moves g grain (move_on_of g grain x a) m) ((last_of g grain (move_on_of g grain x a) m).bucket == 0) (price a) (total price m) budget)
    ∙ split_worth (is_move_of g x a && nat_le (price a) budget) _ (move_gain_of g x a) _

none_paid : (b : ℕ) (z : Bool) → (nat_le 0 b && z) ≡ z
none_paid b z = grind arith

pub worth-nil : (price : Action → ℕ) (g : SettingsFields) (grain budget : ℕ) (x : RelaxedFields) →
    worth price g grain budget x [] ≡ (if x.bucket == 0 then Some 0 else None)
unfolding worth
worth-nil price g grain budget x = ap (λ b. if b then Some 0 else None) (none_paid budget (x.bucket == 0))

pub may_pay : (m : Bool) (p b : ℕ) → m ≡ true → p ≤ b → (m && nat_le p b) ≡ true
may_pay m p b h paid = grind arith

pub then_some : (c : Bool) (o : Option ℕ) (gain v : ℕ) → c ≡ true → o ≡ Some v → (if c then option_map (λ n. gain + n) o else None) ≡ Some (gain + v)
then_some c o gain v h e = rw (h, e) refl

-- a move and then the best plan
pub best_plan-move : (price : Action → ℕ) (g : SettingsFields) (grain budget : ℕ) (x : RelaxedFields) (a : Action) → ArePriced price g →
    is_move_of g x a ≡ true → price a ≤ budget →
    option_le (option_map (λ n. move_gain_of g x a + n) (best_plan price g grain (budget - price a) (move_on_of g grain x a))) (best_plan price g grain budget x)
best_plan-move price g grain budget x a priced h paid =
    elim (best_plan price g grain (budget - price a) (move_on_of g grain x a)) as (λ o. best_plan price g grain (budget - price a) (move_on_of g grain x a) ≡ o → option_le (option_map (λ n. move_gain_of g x a + n) o) (best_plan price g grain budget x)) [
      | None ↦ λ e. tt
      | Some v ↦ λ e.
          let found = best_plan-attained price g grain (budget - price a) (move_on_of g grain x a) v e in
          let may : (is_move_of g x a && nat_le (price a) budget) ≡ true = may_pay (is_move_of g x a) (price a) budget h paid in
          subst (λ o. option_le o (best_plan price g grain budget x))
          (worth-cons price g grain budget x a found.0 ∙ then_some (is_move_of g x a && nat_le (price a) budget) _ (move_gain_of g x a) v may found.1)
          (best_plan-upper price g grain budget x (a ∷ found.0) priced)
    ] refl

-- each plan is below the recursion
pub map_le : (gain : ℕ) (a b : Option ℕ) → option_le a b → option_le (option_map (λ n. gain + n) a) (option_map (λ n. gain + n) b)
map_le gain None b h = tt
map_le gain (Some a) None h = absurd h
map_le gain (Some a) (Some b) h = omega arith

pub if_le : (c : Bool) (a b : Option ℕ) → option_le a b → option_le (if c then a else None) (if c then b else None)
if_le true a b h = h
if_le false a b h = tt
