use Rattle.std.proofs.Common.{◌∙◌, IfOk, ap}
use Rattle.rayon.proofs.ListFacts.{IfOk-then}
use Rattle.rayon.proofs.ToStd.{slice-AllZip}
use Rattle.pareto_front.specs.Lists.{items_of}
use Rattle.pareto_front.specs.Parts.{IsRun, part_count}
use Rattle.pareto_front.proofs.Merge.{gather}
use Rattle.pareto_front.proofs.parts.divide.Goals as goal

pub returns : goal.returns
returns g c =
    let pieces = c.args.pieces.now in
    let count = part_count c.args.len in
    IfOk-then c.collect.result _ _ c.collect.ensures (λ v h.
    let chain = rw (c.map.ensures.base, c.map.ensures.f) at h.1 in
    let slice = chain.1 ∙ ap (λ it. it.slice.now) c.with_min_len.ensures.base ∙ c.par_iter.ensures in
    let zip = slice-AllZip chain.0 pieces slice (λ piece r. IfOk r (λ run. IsRun count piece (items_of run.items))) h.0 chain.2 in
    gather (λ piece run. IsRun count piece (items_of run.items)) pieces h.0 v _ zip h.2)
