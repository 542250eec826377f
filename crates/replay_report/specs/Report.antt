-- The text that is written for a macro.
use Rattle.std.specs.Prelude.{ℕ, ◌+◌, List, [], ◌∷◌, Option, None, flat_map, slice_get, take}
use Rattle.std.specs.List.{concat, enumerate_from}
use Rattle.std.specs.Option.{option_map_or}
use Rattle.action_table.specs.declared.action.Action.{Action}
use Rattle.craft_state.specs.Craft.{StateFields}
use Rattle.craft_settings.specs.Ranges.{SettingsFields}
use Rattle.step_rules.specs.Legality.{start_of}
use Rattle.step_rules.specs.Run.{run_of}
use Rattle.macro_text.specs.Blocks.{blocks_of}
use Rattle.replay_report.specs.Lines.{head_of, kept_line, level_line, replay_line, table_row}
use Rattle.replay_report.specs.declared.style.Report.{Report}
use Rattle.replay_report.specs.declared.style.Report.TheVariants.{Plain, Limits, Levels}

-- what is written of the state after some actions from a state, and nothing where they don't run
abbrev pub text_after : SettingsFields → StateFields → List Action → (StateFields → List ℕ) → List ℕ
text_after g s m written = option_map_or written (run_of g s m) []

-- the first line for actions from a state
abbrev pub first_line : SettingsFields → StateFields → List Action → List ℕ
first_line g s m = text_after g s m (head_of g m)

-- the limit that the line of a place shows
abbrev pub shown : Report → List ℕ → ℕ → Option ℕ
shown Plain limits place = None
shown Limits limits place = slice_get limits place
shown Levels limits place = None

-- the line of the action at a place: its number is one more, and the state is the one after as many actions
abbrev pub step_line : SettingsFields → StateFields → Report → List ℕ → List Action → ℕ × Action → List ℕ
step_line g s style limits m (place, action) =
    text_after g s (take (place + 1) m) (λ after. table_row (place + 1) action after (shown style limits place))

-- the table: a line for each action
abbrev pub table_of : SettingsFields → StateFields → Report → List ℕ → List Action → List ℕ
table_of g s style limits m = flat_map (step_line g s style limits m) (enumerate_from 0 m)

-- a line for each level, from 0
abbrev pub levels_of : List ℕ → List ℕ
levels_of counts = flat_map level_line (enumerate_from 0 counts)

-- the lines of the levels, in the style that tells them
abbrev pub levels_shown : Report → List ℕ → List ℕ
levels_shown Plain counts = []
levels_shown Limits counts = []
levels_shown Levels counts = levels_of counts

-- the parts of the text, in order
abbrev pub parts_of : SettingsFields → Report → (counts limits : List ℕ) → List Action → List (List ℕ)
parts_of g style counts limits m =
    first_line g (start_of g) m ∷ kept_line counts ∷ blocks_of m ∷ replay_line ∷ table_of g (start_of g) style limits m
    ∷ levels_shown style counts ∷ []

-- the whole text
abbrev pub report_of : SettingsFields → Report → (counts limits : List ℕ) → List Action → List ℕ
report_of g style counts limits m = concat (parts_of g style counts limits m)

-- the text of the rest of a craft, from a state that it has come to
abbrev pub continuation_of : SettingsFields → StateFields → List Action → List ℕ
continuation_of g s m = concat (first_line g s m ∷ blocks_of m ∷ replay_line ∷ table_of g s Plain [] m ∷ [])
