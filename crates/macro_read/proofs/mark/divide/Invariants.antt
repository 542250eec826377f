use Rattle.std.proofs.Common.{◌-◌, ◌<◌, ◌≤◌, length, take}
use Rattle.macro_read.specs.Lines.{Text}
use Rattle.macro_read.specs.Mark.{IsWholeLines, IsMarkedBetween}
use Rattle.macro_read.proofs.mark.divide.Given as goal

-- what is passed is whole lines, and no line in it is the mark
abbrev pub invariant-loop-start : goal.invariant-loop-start
invariant-loop-start l = record {
  inside : l.start ≤ length l.input;
  whole : l.start < length l.input → IsWholeLines (take l.start l.input);
  passed : (before after : Text) → IsMarkedBetween l.input before after → l.start ≤ length before;
}

abbrev pub decreases-loop-start : goal.decreases-loop-start
decreases-loop-start l = length l.input - l.start
