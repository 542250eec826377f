use Rattle.std.proofs.Common.{◌≡◌, ◌+◌, ◌*◌, ◌++◌, List, Vec, ℕ, length, length-append, ap, sym, subst, arith, ◌∙◌}
use Rattle.walk_table.specs.Pieces.{FilledFields, pieces_of, ArePieces}
use Rattle.walk_table.proofs.Places.{pieces_joined}
use Rattle.walk_table.proofs.pieces.Filled.append.Goals as goal

pub invariant_of-self-2 : goal.invariant_of-self-2
invariant_of-self-2 c =
    let i = c.self.inside in
    let count = pieces_of i.graph.nodes in
    let sum : i.budgets * count + length c.args.block.items ≡ c.args.end * count =
    subst (λ (t : FilledFields). t.budgets * pieces_of t.graph.nodes + length c.args.block.items ≡ c.args.end * pieces_of t.graph.nodes) (sym c.self.view_is) c.requires.long in
    let more : ArePieces i.graph i.needs (i.budgets * count) c.args.block.items =
    subst (λ (t : FilledFields). ArePieces t.graph t.needs (t.budgets * pieces_of t.graph.nodes) c.args.block.items) (sym c.self.view_is) c.requires.pieces in
    let items : c.append.new.self.items ≡ i.pieces.items ++ c.args.block.items = c.in_ok-append.ensures.items in
    let both : length (i.pieces.items ++ c.args.block.items) ≡ length i.pieces.items + length c.args.block.items = length-append i.pieces.items c.args.block.items in
    let old = c.self.invariant.long in
    record {
      some = c.self.invariant.some;
      fits = c.self.invariant.fits;
      long = ap length items ∙ omega arith;
      right = subst (λ (l : List (Vec ℕ _)). ArePieces i.graph i.needs 0 l) (sym items)
          (pieces_joined i.graph i.needs 0 (i.budgets * count) i.pieces.items c.args.block.items (omega arith) c.self.invariant.right more);
    }
