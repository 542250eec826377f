-- No completion is lost, and the best quality is the floor or reached.
use Rattle.std.proofs.Common.{◌≡◌, length}
use Rattle.quality_sweep.specs.Sweeping.{Becomes, Holds}
use Rattle.quality_sweep.proofs.above.sweep_above.Given as goal

abbrev pub invariant-loop-place : goal.invariant-loop-place
invariant-loop-place g l = record {
  holds : Holds l.outlook.g.now (g.C.Ceiling.allows l.outlook.ceiling.now) l.outlook.from.now l.place l.front.kept l.front.shelves l.front.best;
  becomes : Becomes l.outlook.g.now l.outlook.from.now l.floor l.front.best;
  count : length l.front.shelves.lists ≡ l.count;
}
