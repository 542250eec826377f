use Rattle.std.proofs.Common.{ℕ, ◌≡◌, ◌<◌, ◌*◌, ◌/◌, ◌%◌, ◌∙◌, length, arith, subst, ap, sym, refl}
use Rattle.walk_table.specs.Pieces.{FilledFields, pieces_of, piece_nodes}
use Rattle.walk_table.proofs.Places.{first_fits, whole, columns_in}
use Rattle.walk_table.proofs.pieces.Filled.piece.Goals as goal
use Rattle.walk_table.proofs.pieces.Filled.piece.Goals.{After-as_mut_slice}

long : (c : After-as_mut_slice) → length c.as_mut_slice.result.now ≡ c.min-columns.result * c.args.self.now.needs
long c = c.as_mut_slice.ensures.len ∙ c.in_ok-words.ensures.len ∙ subst (λ (t : FilledFields). c.min-columns.result * c.self.inside.needs ≡ c.min-columns.result * t.needs) c.self.view_is refl

pub fill_columns-requires-clause-whole : goal.fill_columns-requires-clause-whole
fill_columns-requires-clause-whole c = whole (length c.as_mut_slice.result.now) c.min-columns.result c.args.self.now.needs (long c)

pub fill_columns-requires-clause-nodes : goal.fill_columns-requires-clause-nodes
fill_columns-requires-clause-nodes c =
    let nodes = c.args.self.now.graph.nodes in
    let needs = c.args.self.now.needs in
    let some : 0 < needs = subst (λ (t : FilledFields). 0 < t.needs) c.self.view_is c.self.invariant.some in
    let nodes_is : c.nodes-nodes.result ≡ nodes = subst (λ (t : FilledFields). c.nodes-nodes.result ≡ t.graph.nodes) c.self.view_is c.nodes-nodes.ensures.value in
    let count : c.count_pieces-count.result ≡ pieces_of nodes = c.count_pieces-count.ensures ∙ ap pieces_of nodes_is in
    let first : c.args.place % c.count_pieces-count.result * piece_nodes < nodes = subst (λ (n : ℕ). c.args.place % n * piece_nodes < nodes) (sym count) (first_fits nodes c.args.place c.requires.0) in
    let columns : length c.as_mut_slice.result.now / needs ≡ c.min-columns.result = columns_in (length c.as_mut_slice.result.now) c.min-columns.result needs some (long c) in
    omega (arith, c.min-columns.ensures)
