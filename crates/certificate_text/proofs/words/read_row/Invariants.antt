use Rattle.std.proofs.Common.{◌≤◌, length}
use Rattle.certificate_text.specs.Text.{space, parts}
use Rattle.certificate_text.proofs.WordByWord.{Left, from_on}
use Rattle.certificate_text.proofs.words.read_row.Given as goal

abbrev pub invariant-loop-read : goal.invariant-loop-read
invariant-loop-read l = record {
  inside : l.from ≤ length l.line;
  left : Left l.line l.count l.read l.row.items (parts space (from_on l.from l.line));
}
