-- The text that is written for a macro that needn't complete the craft.
use Rattle.std.specs.Prelude.{ℕ, ◌+◌, List, [], ◌∷◌, codes, take, if◌then◌else◌}
use Rattle.std.specs.List.{concat}
use Rattle.std.specs.Fmt.{decimal}
use Rattle.action_table.specs.declared.action.Action.{Action}
use Rattle.craft_state.specs.Craft.{StateFields}
use Rattle.craft_settings.specs.Ranges.{SettingsFields}
use Rattle.step_rules.specs.Legality.{start_of, is_complete, is_over}
use Rattle.step_rules.specs.declared.legality.Illegal.{Illegal}
use Rattle.replay_report.specs.Lines.{replay_line}
use Rattle.replay_report.specs.Reasons.{reason_word}
use Rattle.replay_report.specs.Report.{table_of}
use Rattle.replay_report.specs.declared.style.Report.TheVariants.{Plain}

-- the table in the plain style, between the line `replay` and a last line
abbrev pub replay_with_of : SettingsFields → List Action → List ℕ → List ℕ
replay_with_of g m line = concat (replay_line ∷ table_of g (start_of g) Plain [] m ∷ line ∷ [])

-- the last line for actions that end in a state
abbrev pub ending_of : SettingsFields → StateFields → List ℕ
ending_of g last = if is_complete g last then codes "complete\n" else if is_over g last then codes "failed\n" else codes "live\n"

-- the last line where a step isn't legal in its turn, whose number is counted from 1
abbrev pub stop_line : ℕ → Illegal → List ℕ
stop_line number why = concat (codes "step " ∷ decimal number ∷ codes ": " ∷ reason_word why ∷ codes "\n" ∷ [])

-- the text of actions that are legal in turn and end in a state
abbrev pub ended_replay_of : SettingsFields → List Action → StateFields → List ℕ
ended_replay_of g m last = replay_with_of g m (ending_of g last)

-- the text of actions of which that at a place isn't legal in its turn: of those before it, and of why
abbrev pub stopped_replay_of : SettingsFields → List Action → ℕ → Illegal → List ℕ
stopped_replay_of g m place why = replay_with_of g (take place m) (stop_line (place + 1) why)
