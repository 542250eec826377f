-- The places so far are marked.
use Rattle.std.proofs.Common.{take}
use Rattle.pareto_front.specs.Parts.{AreMarked}
use Rattle.pareto_front.proofs.marking.mark.Given as goal

abbrev pub invariant-loop-place : goal.invariant-loop-place
invariant-loop-place l = AreMarked (take l.place-index l.places) l.initial.marks l.marks
