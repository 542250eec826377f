use Rattle.std.proofs.Common.{◌≡◌, ◌∙◌, ap, sym, subst, arith}
use Rattle.walk_table.specs.declared.graph.Edge.{Edge}
use Rattle.walk_table.specs.Graph.{edge_at}
use Rattle.walk_table.specs.Pieces.{FilledFields}
use Rattle.walk_table.proofs.Columns.{column_raised, column_costly}
use Rattle.walk_table.proofs.pieces.Filled.take_in.Goals as goal

pub returns-then-cost-budget : goal.returns-then-cost-budget
returns-then-cost-budget c node low high before =
    let g = c.args.self.now.graph in
    let edge_is : c.edge-edge.result ≡ edge_at g c.args.k = subst (λ (t : FilledFields). c.edge-edge.result ≡ edge_at t.graph c.args.k) c.self.view_is c.edge-edge.ensures.value in
    column_raised g c.args.budget node c.args.k c.args.out.now c.column-source.result.now c.raise.new.dst c.edge-edge.result edge_is low high
    c.raise.auto.dst (c.column-source.ensures.long ∙ sym c.requires.long) before c.if-cost-budget.true c.column-source.ensures.right (λ need lt. c.raise.ensures need lt)

pub returns-else-cost-budget : goal.returns-else-cost-budget
returns-else-cost-budget c node low high before =
    let g = c.args.self.now.graph in
    let edge_is : c.edge-edge.result ≡ edge_at g c.args.k = subst (λ (t : FilledFields). c.edge-edge.result ≡ edge_at t.graph c.args.k) c.self.view_is c.edge-edge.ensures.value in
    let cost_is : c.edge-edge.result.cost ≡ (edge_at g c.args.k).cost = ap (λ (e : Edge). e.cost) edge_is in
    column_costly g c.args.budget node c.args.k c.args.out.now (omega arith) before
