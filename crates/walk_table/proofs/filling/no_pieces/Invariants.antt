use Rattle.std.proofs.Common.{ℕ, ◌≡◌, length}
use Rattle.walk_table.specs.Graph.{GraphFields}
use Rattle.walk_table.specs.Pieces.{AreSlots}
use Rattle.walk_table.proofs.filling.no_pieces.Given as goal

abbrev pub invariant-loop : goal.invariant-loop
invariant-loop l = record {
  long : length l.slots.items ≡ l.counter;
  none : (g : GraphFields) (needs first : ℕ) → AreSlots g needs first l.slots.items;
}
