-- The greatest gain by the first move, as a table finds it.
use Rattle.std.specs.Prelude.{ℕ, List, [], ◌∷◌, Option, Some, None, ◌+◌, ◌-◌, ◌&&◌, ◌==◌, nat_le, if◌then◌else◌}
use Rattle.std.specs.Option.{option_map}
use Rattle.action_table.specs.declared.action.Action.{Action}
use Rattle.action_table.specs.declared.action.Action.TheVariants.{StandardTouch, AdvancedTouch, RefinedTouch}
use Rattle.craft_state.specs.declared.Combo.{Combo}
use Rattle.craft_state.specs.declared.Combo.TheVariants.{NoCombo, Basic, Standard}
use Rattle.craft_settings.specs.Ranges.{SettingsFields}
use Rattle.priced_moves.specs.declared.kinds.Prices.{Prices}
use Rattle.priced_moves.specs.declared.kinds.Units.{Units}
use Rattle.priced_moves.specs.Moves.{SeenFields, is_move_of, gain_of, move_on_of}
use Rattle.priced_moves.specs.Prices.{price_of}
use Rattle.priced_moves.specs.Optimum.{best}

-- what no move gains, if nothing is left to do
abbrev pub at_end : SeenFields → Option ℕ
at_end x = if x.need == 0 then Some 0 else None

-- what a first move and the best after it gain
abbrev pub leads_with : Prices → SettingsFields → Units → ℕ → SeenFields → Action → Option ℕ
leads_with p g units budget x action =
    if is_move_of g x action && nat_le (price_of p g x.combo action) budget
    then option_map (λ n. gain_of g units x action + n)
    (best p g units (budget - price_of p g x.combo action) (move_on_of g units x action))
    else None

-- the same with another need, and without a combo
abbrev pub at_need : SeenFields → ℕ → SeenFields
at_need x need = record x { need = need }

abbrev pub without_combo : SeenFields → SeenFields
without_combo x = record x { combo = NoCombo }

-- the actions that a combo changes
abbrev pub continuing : Combo → List Action
continuing NoCombo = []
continuing Basic = StandardTouch ∷ RefinedTouch ∷ []
continuing Standard = AdvancedTouch ∷ []
