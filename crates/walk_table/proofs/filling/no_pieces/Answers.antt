use Rattle.std.proofs.Common.{rules, ℕ, List, Option, Vec, sym, subst}
use Rattle.walk_table.specs.Pieces.{AreSlots}
use Rattle.walk_table.proofs.Places.{slots_pushed}
use Rattle.walk_table.proofs.filling.no_pieces.Goals as goal

pub loop-preserved : goal.loop-preserved
loop-preserved c = record {
  long = search rules;
  none = λ g needs first. subst (λ (l : List (Option (Vec ℕ _))). AreSlots g needs first l) (sym c.in_ok-push.ensures.items) (slots_pushed g needs first c.loop.slots.items (c.loop.invariant.none g needs first));
}
