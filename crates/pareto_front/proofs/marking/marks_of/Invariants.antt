-- The places of the lists so far are marked.
use Rattle.std.proofs.Common.{take}
use Rattle.pareto_front.specs.Lists.{items_of}
use Rattle.pareto_front.specs.Parts.{AreMarks}
use Rattle.pareto_front.proofs.marking.marks_of.Given as goal

abbrev pub invariant-loop-places : goal.invariant-loop-places
invariant-loop-places l = AreMarks l.count (take l.places-index (items_of l.kept)) l.marks.items
