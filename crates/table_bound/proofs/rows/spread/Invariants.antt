-- The places so far have the number, and the others stand as they were.
use Rattle.std.proofs.Common.{◌≡◌, ℕ, ◌<◌, ◌≤◌, get_or}
use Rattle.table_bound.proofs.rows.spread.Given as goal

abbrev pub invariant-loop-below : goal.invariant-loop-below
invariant-loop-below l = record {
  done : (b : ℕ) → b < l.below → get_or l.row b 0 ≡ get_or l.fn.row l.place 0;
  rest : (b : ℕ) → l.below ≤ b → get_or l.row b 0 ≡ get_or l.fn.row b 0;
}
