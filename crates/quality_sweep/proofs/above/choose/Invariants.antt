-- The candidates so far were chosen or passed over.
use Rattle.std.proofs.Common.{take}
use Rattle.quality_sweep.specs.Sweeping.{Chooses}
use Rattle.quality_sweep.proofs.above.choose.Given as goal

abbrev pub invariant-loop-candidate : goal.invariant-loop-candidate
invariant-loop-candidate l = Chooses l.g (take l.candidate-index l.batch) l.best l.fn.kept l.kept l.fn.chosen.items l.chosen.items
