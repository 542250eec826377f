use Rattle.std.proofs.Common.{◌≤◌, length, drop}
use Rattle.certificate_text.specs.Text.{line_end, parts}
use Rattle.certificate_text.proofs.WordByWord.{from_on}
use Rattle.front_check.proofs.RowByRow.{Going}
use Rattle.front_check.proofs.ahead.look_ahead.Given as goal

abbrev pub invariant-loop-place : goal.invariant-loop-place
invariant-loop-place l = record {
  inside : l.from ≤ length l.text;
  going : Going l.g l.kept l.text (drop l.place l.kept) (parts line_end (from_on l.from l.text)) l.next.items;
}
