use Rattle.std.proofs.Common.{◌≡◌, ◌≤◌, ◌*◌, ◌+◌, length, [], ◌∷◌}
use Rattle.prefix_fronts.specs.Prefix.{empty_prefix}
use Rattle.certificate_text.specs.declared.numbers.TheConstants.{MOST_NUMBER}
use Rattle.certificate_text.specs.Text.{line_end, parts}
use Rattle.certificate_text.proofs.WordByWord.{from_on}
use Rattle.certificate_laws.specs.Lines.{heading}
use Rattle.front_check.specs.Judging.{claim_of}
use Rattle.front_check.specs.Levels.{LeadsTo, AreKept}
use Rattle.front_check.proofs.levels.judge_levels.Given as goal

abbrev pub invariant-loop-number : goal.invariant-loop-number
invariant-loop-number g l = record {
  high : l.number ≤ 273;
  inside : l.from ≤ length l.text;
  few : length l.kept.items ≤ MOST_NUMBER;
  lines : l.lines ≤ l.number * (MOST_NUMBER + 1);
  kept : AreKept l.claimed.g.now l.number l.kept.items;
  leads : LeadsTo l.claimed.g.now (heading (claim_of l.claimed) 0 (empty_prefix l.claimed.g.now ∷ [])) (parts line_end l.text) (heading (claim_of l.claimed) l.number l.kept.items) (parts line_end (from_on l.from l.text)) l.lines;
  bounds : g.L.Limits.bounds l.limits ≡ g.L.Limits.bounds l.initial.limits;
}
