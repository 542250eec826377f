use Rattle.std.proofs.Common.{◌≡◌, ◌++◌, drop, flat_map, string_bytes}
use Rattle.std.specs.List.{enumerate_from}
use Rattle.craft_state.specs.Craft.{StateFields}
use Rattle.craft_settings.specs.Ranges.{SettingsFields}
use Rattle.replay_report.specs.Report.{step_line, table_of}
use Rattle.replay_report.specs.States.{AreStatesOf}
use Rattle.replay_report.proofs.table.table_text.Given as goal

-- what is written and the lines of the actions that are left make the whole table
abbrev pub invariant-loop-place : goal.invariant-loop-place
invariant-loop-place l = (g : SettingsFields) (from : StateFields) → AreStatesOf g from l.actions l.states
    → string_bytes l.text ++ flat_map (step_line g from l.style l.limits l.actions) (enumerate_from l.place (drop l.place l.actions)) ≡ table_of g from l.style l.limits l.actions
