-- The lines that are written for a macro.
use Rattle.std.specs.Prelude.{ℕ, List, [], ◌∷◌, ◌++◌, Option, Some, None, codes, length, sum}
use Rattle.std.specs.List.{concat}
use Rattle.std.specs.Fmt.{decimal}
use Rattle.action_table.specs.declared.action.Action.{Action}
use Rattle.action_table.specs.Table.{display_name_of}
use Rattle.craft_state.specs.Craft.{StateFields}
use Rattle.craft_settings.specs.Ranges.{SettingsFields}
use Rattle.macro_order.specs.Order.{seconds_of}
use Rattle.replay_report.specs.Columns.{left, right}

-- the first line, by its numbers
abbrev pub numbers_line : (steps seconds progress quality most : ℕ) → List ℕ
numbers_line steps seconds progress quality most =
    concat (codes "steps " ∷ decimal steps ∷ codes " seconds " ∷ decimal seconds ∷ codes " progress " ∷ decimal progress
    ∷ codes "/" ∷ decimal progress ∷ codes " quality " ∷ decimal quality ∷ codes "/" ∷ decimal most ∷ codes "\n" ∷ [])

-- the first line for actions that end in a state
abbrev pub head_of : SettingsFields → List Action → StateFields → List ℕ
head_of g m last = numbers_line (length m) (seconds_of m) g.progress last.quality g.quality

-- the line of how many prefixes the levels kept together
abbrev pub kept_line : List ℕ → List ℕ
kept_line counts = concat (codes "kept " ∷ decimal (sum counts) ∷ codes "\n" ∷ [])

-- the line between the macro blocks and the table
abbrev pub replay_line : List ℕ
replay_line = codes "replay\n"

-- the columns of a line: the number of the step, the action and the state after it
abbrev pub columns_of : ℕ → Action → StateFields → List ℕ
columns_of number action after =
    concat (right 3 number ∷ codes " " ∷ left 20 (display_name_of action) ∷ right 7 after.progress ∷ right 7 after.quality
    ∷ right 4 after.durability ∷ right 5 after.cp ∷ [])

-- the last column, where a limit is shown
abbrev pub limit_column : Option ℕ → List ℕ
limit_column None = []
limit_column (Some limit) = right 7 limit

-- one line of the table
abbrev pub table_row : ℕ → Action → StateFields → Option ℕ → List ℕ
table_row number action after limit = columns_of number action after ++ (limit_column limit ++ codes "\n")

-- the line of how many prefixes a level kept
abbrev pub level_line : ℕ × ℕ → List ℕ
level_line (level, count) = concat (codes "level " ∷ decimal level ∷ codes " " ∷ decimal count ∷ codes "\n" ∷ [])
