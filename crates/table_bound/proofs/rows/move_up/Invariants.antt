-- From the bucket on the row was moved, and below it stands as it was.
use Rattle.std.proofs.Common.{◌≡◌, ℕ, ◌<◌, ◌≤◌, ◌-◌, get_or, length}
use Rattle.table_bound.proofs.rows.move_up.Given as goal

abbrev pub invariant-loop-bucket : goal.invariant-loop-bucket
invariant-loop-bucket l = record {
  within : l.bucket ≤ length l.row;
  moved : (b : ℕ) → l.bucket ≤ b → b < length l.row → get_or l.row b 0 ≡ get_or l.fn.row (b - l.down) 0;
  rest : (b : ℕ) → b < l.bucket → get_or l.row b 0 ≡ get_or l.fn.row b 0;
}
