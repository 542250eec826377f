use Rattle.std.proofs.Common.{◌∙◌, List, [], length, length-append, get_or, ap, arith}
use Rattle.pareto_front.specs.Lists.{items_of}
use Rattle.pareto_front.proofs.Vectors.{items-added, get_or-empty}
use Rattle.quality_sweep.specs.declared.candidate.Candidate.{Candidate}
use Rattle.quality_sweep.proofs.shelves.Shelves.new.Goals as goal

pub loop-place-preserved : goal.loop-place-preserved
loop-place-preserved c = record {
  count = let more = simp length-append at (ap length c.in_ok-push.ensures.items) in omega (arith, more, c.loop-place.invariant.count);
  empty = λ i.
      ap (λ (l : List (List Candidate)). get_or l i []) (items-added c.loop-place.lists.items c.push.new.self.items c.new.result c.in_ok-push.ensures.items c.new.ensures.items)
      ∙ get_or-empty (items_of c.loop-place.lists.items) i ∙ c.loop-place.invariant.empty i;
}
