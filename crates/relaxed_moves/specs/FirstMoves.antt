-- The plans by their first move.
use Rattle.std.specs.Prelude.{ℕ, List, Option, Some, None, ◌+◌, ◌-◌, ◌&&◌, ◌==◌, nat_le, if◌then◌else◌}
use Rattle.std.specs.Option.{option_map}
use Rattle.action_table.specs.declared.action.Action.{Action}
use Rattle.craft_settings.specs.Ranges.{SettingsFields}
use Rattle.relaxed_moves.specs.Moves.{RelaxedFields, is_move_of, move_gain_of, move_on_of}
use Rattle.relaxed_moves.specs.Optimum.{best_plan, greatest_each, option_max}

-- what the empty list gains, if it is a plan
abbrev pub at_end : RelaxedFields → Option ℕ
at_end x = if x.bucket == 0 then Some 0 else None

-- what a first move and the best plan after it gain
abbrev pub leads_with : (Action → ℕ) → SettingsFields → ℕ → ℕ → RelaxedFields → Action → Option ℕ
leads_with price g grain budget x action =
    if is_move_of g x action && nat_le (price action) budget
    then option_map (λ n. move_gain_of g x action + n) (best_plan price g grain (budget - price action) (move_on_of g grain x action))
    else None

-- the greatest gain of the empty list and of the plans whose first move was tried
abbrev pub leads : (Action → ℕ) → SettingsFields → ℕ → ℕ → RelaxedFields → List Action → Option ℕ
leads price g grain budget x tried = option_max (at_end x) (greatest_each (leads_with price g grain budget x) tried)
