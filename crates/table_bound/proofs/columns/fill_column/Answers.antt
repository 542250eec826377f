use Rattle.std.proofs.Common.{◌+◌, ℕ, subst}
use Rattle.relaxed_moves.specs.Moves.{RelaxedFields}
use Rattle.table_bound.specs.Columns.{SeesBuckets}
use Rattle.table_bound.proofs.Filling.{sees-lowered}
use Rattle.table_bound.proofs.columns.fill_column.Goals as goal

pub returns-clause-seen : goal.returns-clause-seen
returns-clause-seen g c =
    let r = g.T.Bound.rules c.args.shared.now.truth in
    let view = c.fill.new.seat.view in
    let column = c.column_of-column in
    sees-lowered (r.grain + 1) r c.args.budget _ c.args.x.now view
    (subst (λ (x : RelaxedFields). SeesBuckets (r.grain + 1) r c.args.budget x view) column.ensures.x
    (subst (λ (n : ℕ). SeesBuckets (r.grain + 1) r n column.result.x view) column.ensures.budget c.fill.ensures.seen))
