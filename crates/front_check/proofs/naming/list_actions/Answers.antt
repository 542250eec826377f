use Rattle.std.proofs.Common.{sym, subst, List, ◌+◌}
use Rattle.action_table.specs.declared.action.Action.{Action}
use Rattle.front_check.proofs.ActionWords.{Left, left-next, left-none, left-done}
use Rattle.front_check.proofs.naming.list_actions.Goals as goal

pub returns : goal.returns
returns c = left-done c.args.line.now c.loop-from.actions.items c.loop-from.from c.loop-from.invariant c.loop-from-test.false

pub returns-in-None : goal.returns-in-None
returns-in-None c =
    left-none c.args.line.now c.loop-from.actions.items c.loop-from.from c.word_end-end.result c.loop-from.invariant c.loop-from-test.true c.word_end-end.ensures.value c.in-None.ensures

pub loop-from-preserved : goal.loop-from-preserved
loop-from-preserved c =
    subst (λ (actions : List Action). Left c.args.line.now actions (c.loop-from.from + (1 + c.word_end-end.result))) (sym c.in_ok-push-in-Some.ensures.items)
    (left-next c.args.line.now c.loop-from.actions.items c.loop-from.from c.word_end-end.result c.in-Some.action c.loop-from.invariant c.loop-from-test.true c.word_end-end.ensures.value c.in-Some.ensures)
