use Rattle.std.proofs.Common.{◌≡◌, ℕ, ◌+◌, ◌*◌, ◌/◌, ◌%◌, ◌<◌, List, length, ap, sym, subst, arith, refl, ◌∙◌}
use Rattle.walk_table.specs.Pieces.{FilledFields, pieces_of, piece_nodes, IsPart}
use Rattle.walk_table.proofs.Places.{place_within, piece_read, column_within_part}
use Rattle.walk_table.proofs.pieces.Filled.part.Goals as goal
use Rattle.walk_table.proofs.pieces.Filled.part.Goals.{After-as_slice}

part : (c : After-as_slice) → IsPart c.args.self.now.graph c.args.self.now.needs c.args.budget (c.args.node / piece_nodes) c.as_slice.result.now
part c =
    let i = c.self.inside in
    let count : c.count_pieces.result ≡ pieces_of i.graph.nodes = c.count_pieces.ensures ∙ ap pieces_of c.nodes.ensures.value in
    let budget : c.args.budget < i.budgets = subst (λ (t : FilledFields). c.args.budget < t.budgets) (sym c.self.view_is) c.requires.budget in
    let node : c.args.node < i.graph.nodes = subst (λ (t : FilledFields). c.args.node < t.graph.nodes) (sym c.self.view_is) c.requires.node in
    let place = c.args.budget * c.count_pieces.result + c.args.node / piece_nodes in
    let place_is : place ≡ c.args.budget * pieces_of i.graph.nodes + c.args.node / piece_nodes = ap (λ (n : ℕ). c.args.budget * n + c.args.node / piece_nodes) count in
    let filled = place_within i.graph.nodes i.budgets c.args.budget c.args.node node budget in
    let long = c.self.invariant.long in
    let inside : place < length i.pieces.items = omega arith in
    subst (λ (t : FilledFields). IsPart t.graph t.needs c.args.budget (c.args.node / piece_nodes) c.as_slice.result.now) c.self.view_is
    (subst (λ (l : List ℕ). IsPart i.graph i.needs c.args.budget (c.args.node / piece_nodes) l) (sym c.as_slice.ensures.value)
    (piece_read i.graph i.needs c.args.budget c.args.node place i.pieces.items c.index.result.now node place_is inside c.index.ensures c.self.invariant.right))

pub returns-clause-part : goal.returns-clause-part
returns-clause-part c = part c

pub returns-clause-within : goal.returns-clause-within
returns-clause-within c =
    column_within_part c.args.self.now.graph c.args.self.now.needs c.args.budget c.args.node (c.args.node % piece_nodes * c.args.self.now.needs) c.as_slice.result.now c.requires.node refl (part c)
