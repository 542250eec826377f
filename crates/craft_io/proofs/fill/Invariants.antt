-- What has been filled is what the source has lost.
use Rattle.std.proofs.Common.{length, ◌-◌, ◌≡◌}
use Rattle.craft_io.proofs.Filled.{Filled}
use Rattle.craft_io.proofs.fill.Given as goal

abbrev pub invariant-loop-at : goal.invariant-loop-at
invariant-loop-at g l = Filled (g.S.Source.view l.initial.source) (g.S.Source.view l.source) l.at (length l.initial.buf) l.buf × (l.at ≡ 0 → l.source ≡ l.initial.source)

abbrev pub decreases-loop-at : goal.decreases-loop-at
decreases-loop-at g l = length l.initial.buf - l.at
