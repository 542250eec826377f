use Rattle.std.proofs.Common.{◌≡◌, ◌≤◌, string_bytes}
use Rattle.front_check.specs.Judging.{claim_of}
use Rattle.certificate_maker.proofs.Levelled.{Going}
use Rattle.certificate_maker.proofs.levels.write_levels.Given as goal

abbrev pub invariant-loop-number : goal.invariant-loop-number
invariant-loop-number g l = record {
  high : l.number ≤ 273;
  going : Going (claim_of l.claimed) l.number l.nodes.items (string_bytes l.text);
  bounds : g.L.Limits.bounds l.limits ≡ g.L.Limits.bounds l.initial.limits;
}
