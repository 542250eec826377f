use Rattle.std.proofs.Common.{List, length, MatchOption, subst}
use Rattle.pareto_front.specs.Columns.{Numbers, NoneEnough, IsFirstEnough}
use Rattle.pareto_front.proofs.Rows.{first_enough}
use Rattle.pareto_front.proofs.columns.Columns.cover.Goals as goal

pub returns : goal.returns
returns c =
    let columns = c.self.inside in
    let found = rw (c.deref.ensures.value, c.deref-2.ensures.value, c.deref-3.ensures.value) at c.first_cover.ensures in
    subst (λ (x : List Numbers). MatchOption c.first_cover.result (NoneEnough c.args.c x (length x)) (IsFirstEnough c.args.c x)) c.self.view_is
    (first_enough columns.cp.items columns.durability.items columns.quality.items c.args.c c.first_cover.result columns.as_many columns.as_long found)
