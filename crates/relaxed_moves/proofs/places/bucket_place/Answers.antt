use Rattle.std.proofs.Common.{arith, ◌≡◌, ◌∙◌, sym, subst, ap, ℕ, ◌+◌, ◌*◌}
use Rattle.relaxed_moves.specs.Columns.{at_bucket}
use Rattle.relaxed_moves.specs.Moves.{AreRelaxed}
use Rattle.relaxed_moves.specs.Places.{index_of, state_at}
use Rattle.relaxed_moves.proofs.Indices.{index_of-stride, at-index_of, relaxed_at}
use Rattle.relaxed_moves.proofs.places.bucket_place.Goals as goal

pub returns-clause-value : goal.returns-clause-value
returns-clause-value c = omega (arith, c.requires.bottom, index_of-stride c.args.grain c.args.first c.args.bucket c.args.x.now)

pub returns-clause-state : goal.returns-clause-state
returns-clause-state c =
    let bounds : AreRelaxed c.args.x.now = subst AreRelaxed c.x.view_is c.x.invariant in
    let value : c.args.bottom + c.args.bucket * 1100 ≡ index_of c.args.grain c.args.first (at_bucket c.args.x.now c.args.bucket) = omega (arith, c.requires.bottom, index_of-stride c.args.grain c.args.first c.args.bucket c.args.x.now) in
    ap (λ (n : ℕ). state_at c.args.grain n) value
    ∙ sym (at-index_of c.args.grain c.args.first (at_bucket c.args.x.now c.args.bucket) (relaxed_at c.args.x.now c.args.bucket bounds) c.requires.bucket).1
