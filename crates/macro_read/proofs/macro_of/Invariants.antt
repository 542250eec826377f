use Rattle.std.proofs.Common.{◌≡◌, length, map}
use Rattle.std.specs.Str.Lines.{strip_carriage_return}
use Rattle.macro_read.specs.Reading.{AllName}
use Rattle.macro_read.proofs.macro_of.Given as goal

-- the lines so far are of the three kinds, and name the actions so far
abbrev pub invariant-loop-line : goal.invariant-loop-line
invariant-loop-line l = record {
  count : l.number ≡ length l.yielded;
  named : AllName (map strip_carriage_return (map (λ line. line.now) l.yielded)) l.actions.items;
}
