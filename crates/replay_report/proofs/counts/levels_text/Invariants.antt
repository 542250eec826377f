use Rattle.std.proofs.Common.{◌≡◌, ◌++◌, drop, flat_map, string_bytes}
use Rattle.std.specs.List.{enumerate_from}
use Rattle.replay_report.specs.Lines.{level_line}
use Rattle.replay_report.specs.Report.{levels_of}
use Rattle.replay_report.proofs.counts.levels_text.Given as goal

-- what is written and the lines of the levels that are left make all lines
abbrev pub invariant-loop-level : goal.invariant-loop-level
invariant-loop-level l =
    string_bytes l.text ++ flat_map level_line (enumerate_from l.level (drop l.level l.counts)) ≡ levels_of l.counts
