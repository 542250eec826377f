use Rattle.std.proofs.Common.{ℕ, ◌≡◌, ◌-◌, length}
use Rattle.walk_table.specs.Graph.{GraphFields}
use Rattle.walk_table.specs.Made.{AreMade, ArePlaced}
use Rattle.walk_table.specs.Pieces.{AreSlots}
use Rattle.walk_table.proofs.filling.arrange.Given as goal

abbrev pub invariant-loop-piece : goal.invariant-loop-piece
invariant-loop-piece l = record {
  placed : ArePlaced l.from l.to l.made.items;
  long : length l.slots.items ≡ l.to - l.from;
  right : (g : GraphFields) (needs : ℕ) → AreMade g needs l.from l.to l.fn.made.items → AreMade g needs l.from l.to l.made.items × AreSlots g needs l.from l.slots.items;
}

abbrev pub decreases-loop-piece : goal.decreases-loop-piece
decreases-loop-piece l = goal.left-loop-piece l
