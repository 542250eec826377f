use Rattle.std.proofs.Common.{◌∙◌, ap, sym, subst}
use Rattle.priced_moves.specs.Moves.{AreSeen}
use Rattle.priced_graph.specs.Sights.{SightsFields, IsSeenIn, all_sights, number_of}
use Rattle.priced_graph.proofs.Listed.{number-of, seen-all}
use Rattle.priced_graph.proofs.numbers.number_in_all.Goals as goal

pub number-requires : goal.number-requires
number-requires c =
    subst (λ (d : SightsFields). IsSeenIn d c.args.x.now) (sym c.all.ensures) (seen-all c.args.x.now (subst AreSeen c.x.view_is c.x.invariant))

pub returns : goal.returns
returns c =
    number-of all_sights c.args.x.now c.number.result (seen-all c.args.x.now (subst AreSeen c.x.view_is c.x.invariant))
    (c.number.ensures.value ∙ ap (λ (d : SightsFields). number_of d c.args.x.now) c.all.ensures)
