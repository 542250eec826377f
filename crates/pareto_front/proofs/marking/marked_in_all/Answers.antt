use Rattle.std.proofs.Common.{◌≡◌, ◌∙◌, IfOk, ap}
use Rattle.rayon.proofs.ListFacts.{IfOk-then}
use Rattle.rayon.proofs.ToStd.{slice-AllZip}
use Rattle.pareto_front.specs.Parts.{marked_from}
use Rattle.pareto_front.proofs.Merge.{gather}
use Rattle.pareto_front.proofs.marking.marked_in_all.Goals as goal

pub returns : goal.returns
returns g c =
    let pieces = c.args.pieces.now in
    let marks = c.args.marks.now in
    IfOk-then c.collect.result _ _ c.collect.ensures (λ v h.
    let chain = rw (c.map.ensures.base, c.map.ensures.f) at h.1 in
    let slice = chain.1 ∙ ap (λ it. it.slice.now) c.with_min_len.ensures.base ∙ c.par_iter.ensures in
    let zip = slice-AllZip chain.0 pieces slice (λ piece r. IfOk r (λ nodes. nodes.items ≡ marked_from piece.start marks piece.nodes.now)) h.0 chain.2 in
    gather (λ piece nodes. nodes.items ≡ marked_from piece.start marks piece.nodes.now) pieces h.0 v _ zip h.2)
