use Rattle.std.proofs.Common.{◌++◌, ◌∷◌, [], ap, ◌∙◌, List}
use Rattle.pareto_front.specs.Columns.{Numbers}
use Rattle.pareto_front.proofs.Rows.{rows-append, row_of}
use Rattle.pareto_front.proofs.columns.Columns.push.Goals as goal

pub returns-clause-pushed : goal.returns-clause-pushed
returns-clause-pushed c =
    let columns = c.self.inside in
    let row = row_of c.args.cp c.args.durability c.args.quality in
    rw (c.push_reserved.ensures.items, c.push_reserved-2.ensures.items, c.push_reserved-3.ensures.items, c.try_reserve.ensures.items, c.try_reserve-2.ensures.items, c.try_reserve-3.ensures.items)
    (rows-append columns.cp.items columns.durability.items columns.quality.items c.args.cp c.args.durability c.args.quality columns.as_many columns.as_long
    ∙ ap (λ (l : List Numbers). l ++ row ∷ []) c.self.view_is)
