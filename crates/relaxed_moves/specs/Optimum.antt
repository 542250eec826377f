-- The greatest quality that lists of relaxed moves gain, and what it says of a state.
use Rattle.std.specs.Prelude.{ℕ, zero, suc, Bool, true, false, List, [], ◌∷◌, Option, Some, None, ◌≡◌, ◌≤◌, ◌+◌, ◌&&◌, ◌==◌, nat_le, min, max, if◌then◌else◌}
use Rattle.action_table.specs.declared.action.Action.{Action}
use Rattle.action_table.specs.Table.{all_actions}
use Rattle.craft_settings.specs.Ranges.{SettingsFields}
use Rattle.craft_settings.specs.Rules.{cap_of}
use Rattle.craft_state.specs.Craft.{StateFields}
use Rattle.relaxed_moves.specs.Budget.{cost_of, potential_of}
use Rattle.relaxed_moves.specs.Moves.{RelaxedFields, is_move_of, move_gain_of, move_on_of, relax_of}
use Rattle.relaxed_moves.specs.declared.places.TheConstants.{MOST_MOVES}

-- each action of the list is a relaxed move in its turn
abbrev pub are_moves : SettingsFields → ℕ → RelaxedFields → List Action → Bool
are_moves g grain x [] = true
are_moves g grain x (action ∷ rest) = is_move_of g x action && are_moves g grain (move_on_of g grain x action) rest

-- the relaxed state after the list
abbrev pub last_of : SettingsFields → ℕ → RelaxedFields → List Action → RelaxedFields
last_of g grain x [] = x
last_of g grain x (action ∷ rest) = last_of g grain (move_on_of g grain x action) rest

-- the sum of the gains of the list
abbrev pub gains_of : SettingsFields → ℕ → RelaxedFields → List Action → ℕ
gains_of g grain x [] = 0
gains_of g grain x (action ∷ rest) = move_gain_of g x action + gains_of g grain (move_on_of g grain x action) rest

-- the sum of the prices of the list
abbrev pub total : (Action → ℕ) → List Action → ℕ
total price [] = 0
total price (action ∷ rest) = price action + total price rest

-- the list is one of relaxed moves, within the budget, that does all the progress
abbrev pub is_plan : (Action → ℕ) → SettingsFields → ℕ → ℕ → RelaxedFields → List Action → Bool
is_plan price g grain budget x moves =
    are_moves g grain x moves && (nat_le (total price moves) budget && ((last_of g grain x moves).bucket == 0))

-- what a list gains, if it is a plan
unfoldable pub worth : (Action → ℕ) → SettingsFields → ℕ → ℕ → RelaxedFields → List Action → Option ℕ
worth price g grain budget x moves = if is_plan price g grain budget x moves then Some (gains_of g grain x moves) else None

-- None is below every number
abbrev pub option_le : Option ℕ → Option ℕ → Type 0
option_le None _ = Unit {0}
option_le (Some a) None = ⊥
option_le (Some a) (Some b) = a ≤ b

-- a greatest gain that isn't below the target; None is below every number
abbrev pub is_enough : ℕ → Option ℕ → Bool
is_enough target None = false
is_enough target (Some most) = nat_le target most

-- the greater of two
abbrev pub option_max : Option ℕ → Option ℕ → Option ℕ
option_max None b = b
option_max (Some a) None = Some a
option_max (Some a) (Some b) = Some (max a b)

-- the greatest value over the actions
abbrev pub greatest_each : (Action → Option ℕ) → List Action → Option ℕ
greatest_each f [] = None
greatest_each f (action ∷ rest) = option_max (f action) (greatest_each f rest)

-- the greatest value over all lists of at most n actions
unfoldable pub greatest : (List Action → Option ℕ) → ℕ → Option ℕ
greatest f zero = f []
greatest f (suc n) = option_max (f []) (greatest_each (λ action. greatest (λ rest. f (action ∷ rest)) n) all_actions)

-- each move has a price
pub record ArePriced (price : Action → ℕ) (g : SettingsFields) : Type 0 where
  pub each : (x : RelaxedFields) (action : Action) → is_move_of g x action ≡ true → 1 ≤ price action

-- the greatest gain over all plans; a plan has no more moves than its budget, since each move has a price
unfoldable pub best_plan : (Action → ℕ) → SettingsFields → ℕ → ℕ → RelaxedFields → Option ℕ
best_plan price g grain budget x = greatest (worth price g grain budget x) budget

-- one plan gains so much, and no plan of any length gains more
pub record IsMostGained (price : Action → ℕ) (g : SettingsFields) (grain budget : ℕ) (x : RelaxedFields) (most : ℕ) : Type 0 where
  pub moves : List Action
  pub plan : is_plan price g grain budget x moves ≡ true
  pub gains : gains_of g grain x moves ≡ most
  pub no_more : (other : List Action) → is_plan price g grain budget x other ≡ true → gains_of g grain x other ≤ most

-- the same with None where there is no plan; the greatest gain over all plans is the one answer that fits
abbrev pub IsGreatestGain : (Action → ℕ) → SettingsFields → ℕ → ℕ → RelaxedFields → Option ℕ → Type 0
IsGreatestGain price g grain budget x None = (moves : List Action) → is_plan price g grain budget x moves ≡ false
IsGreatestGain price g grain budget x (Some most) = IsMostGained price g grain budget x most

-- the budget optimum: over all lists whose cost is at most the budget
abbrev pub opt : SettingsFields → ℕ → ℕ → RelaxedFields → Option ℕ
opt g grain budget x = best_plan (cost_of g) g grain budget x

abbrev pub one : Action → ℕ
one _ = 1

-- the step optimum: over all lists of at most so many moves
abbrev pub reach : SettingsFields → ℕ → ℕ → RelaxedFields → Option ℕ
reach g grain moves x = best_plan one g grain moves x

-- the quality that counts at most, after so much more
abbrev pub capped : SettingsFields → StateFields → Option ℕ → Option ℕ
capped g s None = None
capped g s (Some gain) = Some (min (cap_of g) (s.quality + gain))

-- what a macro through the state can reach at most
unfoldable pub limit_of : SettingsFields → ℕ → StateFields → Option ℕ
limit_of g grain s = capped g s (opt g grain (potential_of g s) (relax_of g grain s))

-- the same with so many more steps, where the step table has them
unfoldable pub within_of : SettingsFields → ℕ → StateFields → ℕ → Option ℕ
within_of g grain s steps =
    if nat_le steps MOST_MOVES then capped g s (reach g grain steps (relax_of g grain s)) else Some (cap_of g)
