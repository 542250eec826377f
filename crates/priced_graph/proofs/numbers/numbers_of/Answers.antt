use Rattle.std.proofs.Common.{ℕ, List, ◌∙◌, ◌+◌, ap, sym, subst}
use Rattle.priced_moves.specs.Moves.{SeenFields}
use Rattle.priced_graph.specs.Numbers.{AreListed, number_or_none}
use Rattle.priced_graph.specs.Sights.{SightsFields, seen_at}
use Rattle.priced_graph.proofs.Listed.{one-more}
use Rattle.priced_graph.proofs.numbers.numbers_of.Goals as goal

pub loop-place-preserved : goal.loop-place-preserved
loop-place-preserved c =
    let s = c.args.sights.now in
    let place = c.loop-place.place in
    subst (λ (l : List ℕ). AreListed s (place + 1) l) (sym c.in_ok-push.ensures.items)
    (one-more s place c.listed_number.result c.loop-place.numbers.items
    (c.listed_number.ensures
    ∙ ap (λ (x : SeenFields). number_or_none s x) (c.seen.ensures.value ∙ ap (λ (d : SightsFields). seen_at d place) c.all-all.ensures))
    c.loop-place.invariant)
