use Rattle.std.proofs.Common.{◌∙◌, ap, [], get_or, List, ◌+◌, ℕ, length}
use Rattle.pareto_front.specs.Lists.{items_of}
use Rattle.pareto_front.specs.declared.parts.Entry.{Entry}
use Rattle.pareto_front.proofs.Vectors.{items-added, get_or-empty, length-more}
use Rattle.pareto_front.proofs.parts.empty_parts.Goals as goal

pub loop-part-preserved : goal.loop-part-preserved
loop-part-preserved c =
    let parts = c.loop-part.parts.items in
    let later = c.push.new.self.items in (
      ap length c.in_ok-push.ensures.items ∙ length-more parts _ ∙ ap (λ (n : ℕ). n + 1) c.loop-part.invariant.0,
      λ g. ap (λ (l : List (List Entry)). get_or l g []) (items-added parts later _ c.in_ok-push.ensures.items c.in_ok-with_capacity.ensures.items) ∙ get_or-empty (items_of parts) g ∙ c.loop-part.invariant.1 g,
    )
