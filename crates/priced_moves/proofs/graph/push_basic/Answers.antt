use Rattle.priced_moves.proofs.Trails.{basic-pushed}
use Rattle.priced_moves.proofs.graph.push_basic.Goals as goal

pub returns : goal.returns
returns c =
    basic-pushed c.args.terms.now.prices c.args.terms.now.settings c.args.terms.now.units c.args.trail.now c.args.edges.now.items c.push_standard.new.edges.items c.push_last.new.edges.items c.in_ok-push_standard.ensures (c.in_ok-push_last.ensures 1)
