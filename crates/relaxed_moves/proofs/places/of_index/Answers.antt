use Rattle.std.proofs.Common.{◌∙◌, sym}
use Rattle.relaxed_moves.proofs.Indices.{index_of-at, index_of-injective}
use Rattle.relaxed_moves.proofs.places.of_index.Goals as goal

pub returns-clause-back : goal.returns-clause-back
returns-clause-back c = rw (c.parts.ensures.first_value, c.parts.ensures.state_value) (index_of-at c.args.grain c.args.index)

pub returns-clause-only : goal.returns-clause-only
returns-clause-only c first x bounds within same =
    index_of-injective c.args.grain first _ x _ bounds c.parts.ensures.bounds within c.parts.ensures.bucket
    (same ∙ sym (rw (c.parts.ensures.first_value, c.parts.ensures.state_value) (index_of-at c.args.grain c.args.index)))
