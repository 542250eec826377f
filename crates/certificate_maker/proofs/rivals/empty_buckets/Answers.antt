use Rattle.std.proofs.Common.{◌∙◌, ap, [], get_or, List, ◌+◌, ℕ, length}
use Rattle.pareto_front.specs.Lists.{items_of}
use Rattle.pareto_front.proofs.Vectors.{items-added, get_or-empty, length-more}
use Rattle.certificate_maker.specs.declared.rivals.Rival.{Rival}
use Rattle.certificate_maker.proofs.rivals.empty_buckets.Goals as goal

pub loop-bucket-preserved : goal.loop-bucket-preserved
loop-bucket-preserved c =
    let buckets = c.loop-bucket.buckets.items in
    let later = c.push.new.self.items in (
      ap length c.in_ok-push.ensures.items ∙ length-more buckets _ ∙ ap (λ (n : ℕ). n + 1) c.loop-bucket.invariant.0,
      λ b. ap (λ (l : List (List Rival)). get_or l b []) (items-added buckets later _ c.in_ok-push.ensures.items c.new.ensures.items) ∙ get_or-empty (items_of buckets) b ∙ c.loop-bucket.invariant.1 b,
    )
