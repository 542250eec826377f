-- The best quality is reached.
use Rattle.std.specs.Option.{IfSome}
use Rattle.quality_sweep.specs.Ahead.{IsReachedFrom}
use Rattle.quality_sweep.proofs.dive.quick_from.Given as goal

abbrev pub invariant-loop-width : goal.invariant-loop-width
invariant-loop-width g l = IfSome l.best (IsReachedFrom l.outlook.g.now l.outlook.from.now)
