-- The candidates so far were expanded.
use Rattle.std.proofs.Common.{take}
use Rattle.quality_sweep.specs.Sweeping.{Explores}
use Rattle.quality_sweep.proofs.expand.explore.Given as goal

abbrev pub invariant-loop-candidate : goal.invariant-loop-candidate
invariant-loop-candidate g l =
    Explores l.outlook.g.now (g.C.Ceiling.allows l.outlook.ceiling.now) l.outlook.from.now (take l.candidate-index l.batch) l.found.items l.fn.best l.best
