use Rattle.pareto_front.proofs.Vectors.{items-pushed}
use Rattle.pareto_front.proofs.parts.push_to.Goals as goal

pub returns : goal.returns
returns c =
    items-pushed c.args.parts.now.items c.args.index c.index_mut.result.now c.push.new.self c.args.entry c.requires c.index_mut.ensures.value c.in_ok-push.ensures.items
