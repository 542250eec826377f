-- The candidates so far lie on their shelves.
use Rattle.std.proofs.Common.{take}
use Rattle.quality_sweep.specs.Sweeping.{Puts}
use Rattle.quality_sweep.proofs.above.put_all.Given as goal

abbrev pub invariant-loop-candidate : goal.invariant-loop-candidate
invariant-loop-candidate l = Puts (take l.candidate-index l.found) l.fn.shelves l.shelves
