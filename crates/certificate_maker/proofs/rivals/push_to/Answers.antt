use Rattle.pareto_front.proofs.Vectors.{items-pushed}
use Rattle.certificate_maker.proofs.rivals.push_to.Goals as goal

pub returns : goal.returns
returns c =
    items-pushed c.args.buckets.now.items c.args.bucket c.index_mut.result.now c.push.new.self c.args.rival c.requires c.index_mut.ensures.value c.in_ok-push.ensures.items
