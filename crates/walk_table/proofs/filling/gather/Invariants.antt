use Rattle.std.proofs.Common.{ℕ, vec_len}
use Rattle.walk_table.specs.Graph.{GraphFields}
use Rattle.walk_table.specs.Made.{AreMade, AreMadeEach}
use Rattle.walk_table.proofs.filling.gather.Given as goal

abbrev pub invariant-loop-part : goal.invariant-loop-part
invariant-loop-part l = (g : GraphFields) (needs from to : ℕ) → AreMadeEach g needs from to l.fn.parts.items → AreMadeEach g needs from to l.parts.items × AreMade g needs from to l.all.items

abbrev pub decreases-loop-part : goal.decreases-loop-part
decreases-loop-part l = vec_len l.parts
