use Rattle.std.proofs.Common.{◌≡◌, length, take, drop}
use Rattle.certificate_laws.specs.Claims.{RowHolds}
use Rattle.front_check.specs.Judging.{claim_of}
use Rattle.front_check.proofs.row.obeys.Given as goal

abbrev pub invariant-loop-place : goal.invariant-loop-place
invariant-loop-place g l = record {
  rows : RowHolds (claim_of l.claimed) l.next l.p (drop l.place l.listed) (drop l.place l.verdicts) → RowHolds (claim_of l.claimed) l.next l.p l.listed l.verdicts;
  begins : take (length l.p.actions) l.child.actions ≡ l.p.actions;
  bounds : g.L.Limits.bounds l.limits ≡ g.L.Limits.bounds l.initial.limits;
}
