use Rattle.std.proofs.Common.{rules, ◌≡◌, true}
use Rattle.step_rules.specs.Legality.{is_legal}
use Rattle.front_check.specs.Judging.{bounds_of}
use Rattle.certificate_maker.proofs.Marked.{step-asked}
use Rattle.certificate_maker.proofs.marks.mark_by.Goals as goal

pub settle-requires-clause-ask : goal.settle-requires-clause-ask
settle-requires-clause-ask g c =
    let legal : is_legal c.args.stage.now.claimed.now.g.now c.args.node.now.state c.args.action ≡ true = search rules in
    step-asked (bounds_of c.args.stage.now.claimed.now) c.args.node.now c.args.action c.step-state.result c.requires.node legal c.step-state.ensures.value
