-- The buckets so far have the numbers of the empty list.
use Rattle.std.proofs.Common.{◌≡◌, ℕ, ◌<◌, slice_index, ◌==◌, if◌then◌else◌}
use Rattle.table_bound.proofs.rows.begin.Given as goal

abbrev pub invariant-loop-bucket : goal.invariant-loop-bucket
invariant-loop-bucket l = (b : ℕ) → b < l.bucket → slice_index l.row b ≡ (if b == 0 then 1 else 0)
