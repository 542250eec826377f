-- The marked nodes so far.
use Rattle.std.proofs.Common.{◌≡◌, take}
use Rattle.pareto_front.specs.Parts.{marked_from}
use Rattle.pareto_front.proofs.marking.marked_in.Given as goal

abbrev pub invariant-loop-k : goal.invariant-loop-k
invariant-loop-k l = l.nodes.items ≡ marked_from l.piece.start l.marks (take l.k l.piece.nodes.now)
