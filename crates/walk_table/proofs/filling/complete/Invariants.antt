use Rattle.std.proofs.Common.{◌≡◌, length}
use Rattle.walk_table.specs.Pieces.{ArePieces, AreSlots}
use Rattle.walk_table.proofs.filling.complete.Given as goal

abbrev pub invariant-loop-k : goal.invariant-loop-k
invariant-loop-k l = record {
  long : length l.block.items ≡ l.k;
  slots : AreSlots l.filled.graph l.filled.needs l.from l.slots;
  pieces : ArePieces l.filled.graph l.filled.needs l.from l.block.items;
}
