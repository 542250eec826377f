-- The actions so far were tried.
use Rattle.std.proofs.Common.{take}
use Rattle.action_table.specs.Table.{all_actions}
use Rattle.quality_sweep.specs.Sweeping.{Expands}
use Rattle.quality_sweep.proofs.expand.expand.Given as goal

abbrev pub invariant-loop-action : goal.invariant-loop-action
invariant-loop-action g l =
    Expands l.outlook.g.now (g.C.Ceiling.allows l.outlook.ceiling.now) l.outlook.from.now l.parent.state (take l.action-index all_actions) l.fn.found.items l.found.items l.fn.best l.best
