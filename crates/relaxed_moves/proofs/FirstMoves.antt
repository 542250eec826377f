-- How the greatest gain follows from the first move.
use Rattle.std.proofs.Common.{ℕ, Bool, true, false, List, [], ◌∷◌, Option, None, ◌≡◌, ◌≤◌, ◌+◌, ◌-◌, ◌++◌, ◌&&◌, nat_le, take, get_or, length, ◌<◌, refl, ◌∙◌, ap, sym, subst, arith, if◌then◌else◌}
use Rattle.std.proofs.lemmas.List.{take_more}
use Rattle.action_table.specs.declared.action.Action.{Action}
use Rattle.action_table.specs.Table.{all_actions}
use Rattle.craft_settings.specs.Ranges.{SettingsFields}
use Rattle.relaxed_moves.specs.FirstMoves.{at_end, leads_with, leads}
use Rattle.relaxed_moves.specs.Moves.{RelaxedFields, is_move_of, move_gain_of, move_on_of}
use Rattle.relaxed_moves.specs.Optimum.{worth, option_le, option_max, greatest_each, ArePriced, best_plan}
use Rattle.relaxed_moves.proofs.Greatest.{option_le-trans, option_le-antisym, option_max-left, option_max-right, option_max-least, option_max-assoc, option_max-none, greatest_each-append, greatest_each-upper, greatest_each-least}
use Rattle.relaxed_moves.proofs.Plans.{worth-nil, worth-cons, best_plan-upper, best_plan-least, best_plan-move, map_le, if_le}

-- a plan gains no more than its first move and the best plan after it
pub leads_with-upper : (price : Action → ℕ) (g : SettingsFields) (grain budget : ℕ) (x : RelaxedFields) (a : Action) (m : List Action) → ArePriced price g →
    option_le (worth price g grain budget x (a ∷ m)) (leads_with price g grain budget x a)
leads_with-upper price g grain budget x a m priced =
    rw (worth-cons price g grain budget x a m)
    (if_le (is_move_of g x a && nat_le (price a) budget) _ _ (map_le (move_gain_of g x a) _ _ (best_plan-upper price g grain (budget - price a) (move_on_of g grain x a) m priced)))

pub cond_below : (c : Bool) (o r : Option ℕ) → (c ≡ true → option_le o r) → option_le (if c then o else None) r
cond_below true o r h = h refl
cond_below false o r h = tt

pub if_below : (m : Bool) (p b : ℕ) (o r : Option ℕ) → (m ≡ true → p ≤ b → option_le o r) → option_le (if m && nat_le p b then o else None) r
if_below true p b o r h = cond_below (nat_le p b) o r (λ e. h refl (grind arith))
if_below false p b o r h = tt

-- and no first move leads to more than the best plan
pub leads_with-below : (price : Action → ℕ) (g : SettingsFields) (grain budget : ℕ) (x : RelaxedFields) (a : Action) → ArePriced price g →
    option_le (leads_with price g grain budget x a) (best_plan price g grain budget x)
leads_with-below price g grain budget x a priced = if_below (is_move_of g x a) (price a) budget _ _ (best_plan-move price g grain budget x a priced)

worth-below : (price : Action → ℕ) (g : SettingsFields) (grain budget : ℕ) (x : RelaxedFields) → ArePriced price g → (m : List Action) →
    option_le (worth price g grain budget x m) (leads price g grain budget x all_actions)
worth-below price g grain budget x priced [] = rw (worth-nil price g grain budget x) (option_max-left _ _)
worth-below price g grain budget x priced (a ∷ m) =
    option_le-trans _ _ _ (leads_with-upper price g grain budget x a m priced)
    (option_le-trans _ _ _ (greatest_each-upper (leads_with price g grain budget x) a) (option_max-right _ _))

-- the recursion of a table: with every first move tried, the lead is the best plan
pub leads-all : (price : Action → ℕ) (g : SettingsFields) (grain budget : ℕ) (x : RelaxedFields) → ArePriced price g →
    leads price g grain budget x all_actions ≡ best_plan price g grain budget x
leads-all price g grain budget x priced =
    option_le-antisym _ _
    (option_max-least _ _ _
    (subst (λ o. option_le o (best_plan price g grain budget x)) (worth-nil price g grain budget x) (best_plan-upper price g grain budget x [] priced))
    (greatest_each-least (leads_with price g grain budget x) all_actions _ (λ a. leads_with-below price g grain budget x a priced)))
    (best_plan-least price g grain budget x _ (worth-below price g grain budget x priced))

-- with no first move tried, it is the empty list
pub leads-none : (price : Action → ℕ) (g : SettingsFields) (grain budget : ℕ) (x : RelaxedFields) → leads price g grain budget x [] ≡ at_end x
leads-none price g grain budget x = option_max-none (at_end x)

leads-push : (price : Action → ℕ) (g : SettingsFields) (grain budget : ℕ) (x : RelaxedFields) (tried : List Action) (a : Action) →
    leads price g grain budget x (tried ++ a ∷ []) ≡ option_max (leads price g grain budget x tried) (leads_with price g grain budget x a)
leads-push price g grain budget x tried a =
    ap (λ o. option_max (at_end x) o)
    (greatest_each-append (leads_with price g grain budget x) tried (a ∷ []) ∙ ap (λ o. option_max (greatest_each (leads_with price g grain budget x) tried) o) (option_max-none (leads_with price g grain budget x a)))
    ∙ sym (option_max-assoc (at_end x) (greatest_each (leads_with price g grain budget x) tried) (leads_with price g grain budget x a))

-- one more action of the action order
pub leads-take : (price : Action → ℕ) (g : SettingsFields) (grain budget : ℕ) (x : RelaxedFields) (n : ℕ) (d : Action) → n < length all_actions →
    leads price g grain budget x (take (n + 1) all_actions) ≡ option_max (leads price g grain budget x (take n all_actions)) (leads_with price g grain budget x (get_or all_actions n d))
leads-take price g grain budget x n d inside =
    ap (leads price g grain budget x) (take_more all_actions n d inside) ∙ leads-push price g grain budget x (take n all_actions) (get_or all_actions n d)
