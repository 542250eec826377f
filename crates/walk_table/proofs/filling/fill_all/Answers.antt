use Rattle.std.proofs.Common.{◌<◌, ◌+◌, ◌*◌, ◌^◌, subst, sym, arith}
use Rattle.walk_table.specs.Graph.{GraphFields}
use Rattle.walk_table.proofs.Places.{nodes_fit}
use Rattle.walk_table.proofs.filling.fill_all.Goals as goal

pub make_block-requires-clause-fits : goal.make_block-requires-clause-fits
make_block-requires-clause-fits g c κs within =
    subst (λ (x : GraphFields). c.min-end.result * x.nodes < 2 ^ 64) (sym c.loop-alloc.invariant.graph)
    (nodes_fit c.min-end.result (c.args.top + 1) c.args.filled.now.graph.nodes c.args.filled.now.needs (omega (arith, c.min-end.ensures)) c.requires.needs c.requires.fits)
