-- The greatest quality that lists of priced moves gain, and what it says of a state.
use Rattle.std.specs.Prelude.{ℕ, Bool, List, [], ◌∷◌, Option, Some, None, ◌+◌, ◌-◌, ◌*◌, ◌&&◌, ◌||◌, ◌==◌, nat_lt, nat_le, if◌then◌else◌}
use Rattle.std.specs.Option.{option_map}
use Rattle.action_table.specs.declared.action.Action.{Action}
use Rattle.craft_settings.specs.Ranges.{SettingsFields}
use Rattle.craft_state.specs.Craft.{StateFields}
use Rattle.relaxed_moves.specs.Optimum.{greatest, capped, is_enough}
use Rattle.priced_moves.specs.declared.kinds.Prices.{Prices}
use Rattle.priced_moves.specs.declared.kinds.Units.{Units}
use Rattle.priced_moves.specs.Moves.{SeenFields, is_move_of, gain_of, move_on_of, seen_of}
use Rattle.priced_moves.specs.Prices.{price_of, worth_of}

-- what a list of moves within a budget gains, if it leaves nothing to do
abbrev pub gained : Prices → SettingsFields → Units → ℕ → SeenFields → List Action → Option ℕ
gained p g units budget x [] = if x.need == 0 then Some 0 else None
gained p g units budget x (action ∷ rest) =
    if is_move_of g x action && nat_le (price_of p g x.combo action) budget
    then option_map (λ n. gain_of g units x action + n)
    (gained p g units (budget - price_of p g x.combo action) (move_on_of g units x action) rest)
    else None

-- the greatest gain over all lists within the budget; none has more moves than its budget, since each move has a price
unfoldable pub best : Prices → SettingsFields → Units → ℕ → SeenFields → Option ℕ
best p g units budget x = greatest (gained p g units budget x) budget

-- so many units of quality in points
abbrev pub in_points : Units → Option ℕ → Option ℕ
in_points units o = option_map (λ n. units.quality * n) o

-- the quality that a macro through the state can reach at most, with so many steps left
unfoldable pub limit_of : Prices → SettingsFields → Units → StateFields → ℕ → Option ℕ
limit_of p g units s steps = capped g s (in_points units (best p g units (worth_of p s steps) (seen_of g units s)))

-- with so many steps left, the state may still lead to the target: before the first step always, and later where a
-- step is left and its limit isn't below the target
unfoldable pub reaches : Prices → SettingsFields → Units → (target : ℕ) → ℕ → StateFields → Bool
reaches p g units target steps s =
    s.effects.first || (nat_lt 0 steps && is_enough target (limit_of p g units s steps))
