use Rattle.macro_read.specs.Lines.{lines_of}
use Rattle.macro_read.proofs.Once.{same_actions, same_first, fits-apart}
use Rattle.macro_read.proofs.laws.reading_law.Goals as goal

pub returns : goal.returns
returns c = record {
  list = λ text a b is other. same_actions (lines_of text) a b is other;
  line = λ text m n is other. same_first (lines_of text) m n is other;
  apart = λ text actions n is bad. fits-apart (lines_of text) actions n is bad;
}
