use Rattle.std.proofs.Common.{◌≡◌}
use Rattle.front_check.specs.Judging.{claim_of}
use Rattle.certificate_maker.specs.Marks.{marks_upto}
use Rattle.certificate_maker.proofs.marks.marks_of.Given as goal

abbrev pub invariant-loop-place : goal.invariant-loop-place
invariant-loop-place g l = record {
  marks : l.marks.items ≡ marks_upto (claim_of l.stage.claimed.now) l.stage.left l.stage.nodes.now l.place;
  bounds : g.L.Limits.bounds l.limits ≡ g.L.Limits.bounds l.initial.limits;
}
