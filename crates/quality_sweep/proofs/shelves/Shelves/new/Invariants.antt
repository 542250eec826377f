-- So many empty shelves are there.
use Rattle.std.proofs.Common.{◌≡◌, ℕ, [], length, get_or}
use Rattle.pareto_front.specs.Lists.{items_of}
use Rattle.quality_sweep.proofs.shelves.Shelves.new.Given as goal

abbrev pub invariant-loop-place : goal.invariant-loop-place
invariant-loop-place l = record {
  count : length l.lists.items ≡ l._place;
  empty : (i : ℕ) → get_or (items_of l.lists.items) i [] ≡ [];
}
