-- What the sink has gained is what is behind `at`.
use Rattle.std.proofs.Common.{length, ◌-◌, ◌≡◌}
use Rattle.craft_io.proofs.Filled.{Written}
use Rattle.craft_io.proofs.write_all.Given as goal

abbrev pub invariant-loop-at : goal.invariant-loop-at
invariant-loop-at g l = Written (g.O.Sink.view l.initial.sink) (g.O.Sink.view l.sink) l.at l.bytes × (l.at ≡ 0 → l.sink ≡ l.initial.sink)

abbrev pub decreases-loop-at : goal.decreases-loop-at
decreases-loop-at g l = length l.bytes - l.at
