use Rattle.std.proofs.Common.{◌≤◌, ◌<◌, ◌-◌, ◌∙◌, Some, length-set, arith}
use Rattle.walk_table.specs.declared.filling.Made.{Made}
use Rattle.walk_table.specs.Made.{IsMade}
use Rattle.walk_table.proofs.Lists.{each_popped}
use Rattle.walk_table.proofs.Places.{slots_set}
use Rattle.walk_table.proofs.filling.arrange.Goals as goal

pub loop-piece-preserved : goal.loop-piece-preserved
loop-piece-preserved c =
    let piece = c.in-Some.piece in
    let placed = each_popped (λ (m : Made). (c.args.from ≤ m.place) × (m.place < c.args.to)) c.loop-piece.made.items c.pop.new.self.items piece c.in-Some.ensures.items c.loop-piece.invariant.placed.at in
    let low = placed.1.0 in
    record {
      placed = record { at = placed.0 };
      long = length-set c.loop-piece.slots.items _ _ ∙ c.loop-piece.invariant.long;
      right = λ g needs h.
          let before = c.loop-piece.invariant.right g needs h in
          let made = each_popped (IsMade g needs c.args.from c.args.to) c.loop-piece.made.items c.pop.new.self.items piece c.in-Some.ensures.items before.0.at in
          (record { at = made.0 }, slots_set g needs c.args.from piece.place (piece.place - c.args.from) c.loop-piece.slots.items (Some piece.words) (omega arith) before.1 made.1.piece);
    }
