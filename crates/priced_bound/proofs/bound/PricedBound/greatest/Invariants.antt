use Rattle.std.proofs.Common.{◌≡◌, drop}
use Rattle.relaxed_moves.specs.Optimum.{option_max}
use Rattle.priced_moves.specs.Edges.{greatest_edge}
use Rattle.priced_bound.specs.Tables.{table_lead}
use Rattle.priced_bound.proofs.bound.PricedBound.greatest.Given as goal

abbrev pub invariant-loop-i : goal.invariant-loop-i
invariant-loop-i l =
    option_max l.most (greatest_edge (table_lead l.self.by l.budget l.need) (drop l.i l.edges))
    ≡ option_max l.fn.plain (greatest_edge (table_lead l.self.by l.budget l.need) l.edges)
