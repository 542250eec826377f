-- The level waits, and the best quality is reached.
use Rattle.std.proofs.Common.{All}
use Rattle.std.specs.Option.{IfSome}
use Rattle.quality_sweep.specs.Ahead.{IsReachedFrom}
use Rattle.quality_sweep.specs.Sweeping.{IsWaiting}
use Rattle.quality_sweep.proofs.dive.dive_once.Given as goal

abbrev pub invariant-loop-step : goal.invariant-loop-step
invariant-loop-step g l = record {
  level : All (IsWaiting l.outlook.g.now (g.C.Ceiling.allows l.outlook.ceiling.now) l.outlook.from.now) l.level.items;
  reached : IfSome l.best (IsReachedFrom l.outlook.g.now l.outlook.from.now);
}
