use Rattle.std.proofs.Common.{sym}
use Rattle.relaxed_moves.proofs.Indices.{at-index_of}
use Rattle.relaxed_moves.proofs.places.index.Goals as goal

pub returns-clause-state : goal.returns-clause-state
returns-clause-state c =
    rw c.place.ensures.value
    (sym (at-index_of c.args.grain c.args.first c.args.x.now c.place.ensures.bounds c.requires.bucket).1)
