use Rattle.std.proofs.Common.{◌<◌, ◌≢◌}
use Rattle.action_table.specs.declared.action.Action.{Action}
use Rattle.action_table.specs.Table.{number_of, display_name_of}
use Rattle.macro_read.proofs.lines.action_named.Given as goal

-- no action so far has this name
abbrev pub invariant-loop-action : goal.invariant-loop-action
invariant-loop-action l = (action : Action) → number_of action < l.action-index → display_name_of action ≢ l.name
