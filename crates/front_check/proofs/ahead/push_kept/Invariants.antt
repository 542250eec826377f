use Rattle.std.proofs.Common.{◌≡◌, ◌++◌, drop}
use Rattle.certificate_laws.specs.Claims.{kept_of}
use Rattle.front_check.proofs.ahead.push_kept.Given as goal

abbrev pub invariant-loop-place : goal.invariant-loop-place
invariant-loop-place l = l.next.items ++ kept_of l.g l.p (drop l.place l.actions) (drop l.place l.row) ≡ l.initial.next.items ++ kept_of l.g l.p l.actions l.row
