-- What was chosen so far is from the found candidates.
use Rattle.std.specs.List.{Contains}
use Rattle.quality_sweep.specs.declared.candidate.Candidate.{Candidate}
use Rattle.quality_sweep.proofs.dive.choose_highest.Given as goal

abbrev pub invariant-loop-candidate : goal.invariant-loop-candidate
invariant-loop-candidate l = (c : Candidate) → Contains l.level.items c → Contains l.candidate-items c
