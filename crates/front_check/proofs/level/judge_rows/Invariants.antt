use Rattle.std.proofs.Common.{◌≡◌, ◌≤◌, length}
use Rattle.front_check.specs.Judging.{claim_of}
use Rattle.front_check.proofs.Leading.{RowsLeft}
use Rattle.front_check.proofs.level.judge_rows.Given as goal

abbrev pub invariant-loop-place : goal.invariant-loop-place
invariant-loop-place g l = record {
  inside : l.from ≤ length l.text;
  bounds : g.L.Limits.bounds l.limits ≡ g.L.Limits.bounds l.initial.limits;
  leads : RowsLeft l.claimed.g.now (claim_of l.claimed) l.level.number l.kept l.next l.text l.place l.from;
}
