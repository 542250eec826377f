use Rattle.std.proofs.Common.{◌≡◌, ℕ, [], length, get_or}
use Rattle.pareto_front.specs.Lists.{items_of}
use Rattle.certificate_maker.proofs.rivals.empty_buckets.Given as goal

abbrev pub invariant-loop-bucket : goal.invariant-loop-bucket
invariant-loop-bucket l = (length l.buckets.items ≡ l._bucket) × ((b : ℕ) → get_or (items_of l.buckets.items) b [] ≡ [])
