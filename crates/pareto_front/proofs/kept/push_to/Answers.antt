use Rattle.pareto_front.proofs.Vectors.{items-pushed, items-kept, at_err}
use Rattle.pareto_front.proofs.kept.push_to.Goals as goal

pub returns-in_err-push-clause-refused : goal.returns-in_err-push-clause-refused
returns-in_err-push-clause-refused c =
    at_err _ _ (items-kept c.args.groups.now.items c.args.index c.index_mut.result.now c.push.new.self c.index_mut.ensures.value c.in_err-push.ensures.items)

pub returns-clause-pushed : goal.returns-clause-pushed
returns-clause-pushed c =
    items-pushed c.args.groups.now.items c.args.index c.index_mut.result.now c.push.new.self c.args.numbers c.requires c.index_mut.ensures.value c.in_ok-push.ensures.items
