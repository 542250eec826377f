use Rattle.action_table.specs.Table.{all_actions}
use Rattle.quality_sweep.proofs.Exploring.{expands-none, expands-next}
use Rattle.quality_sweep.proofs.expand.expand.Goals as goal

pub loop-action-init : goal.loop-action-init
loop-action-init g c = expands-none c.args.outlook.now.g.now (g.C.Ceiling.allows c.args.outlook.now.ceiling.now) c.args.outlook.now.from.now c.args.parent.now.state c.args.found.now.items c.args.best

pub loop-action-preserved : goal.loop-action-preserved
loop-action-preserved g c =
    expands-next c.args.outlook.now.g.now (g.C.Ceiling.allows c.args.outlook.now.ceiling.now) c.args.outlook.now.from.now c.args.parent.now.state all_actions c.loop-action.action-index _ c.args.found.now.items c.loop-action.found.items c.act.new.found.items
    c.args.best c.loop-action.best c.in_ok-best.best c.loop-action-test.true c.loop-action.invariant c.in_ok-best.ensures
