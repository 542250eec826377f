-- What the runs so far have of the part.
use Rattle.std.proofs.Common.{◌≡◌, take}
use Rattle.pareto_front.specs.Parts.{joined, runs_of}
use Rattle.pareto_front.proofs.parts.join.Given as goal

abbrev pub invariant-loop-run : goal.invariant-loop-run
invariant-loop-run l = l.entries.items ≡ joined (runs_of (take l.run-index l.runs)) l.part
