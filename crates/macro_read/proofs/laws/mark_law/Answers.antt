use Rattle.macro_read.proofs.Marks.{divided-once}
use Rattle.macro_read.proofs.laws.mark_law.Goals as goal

pub returns : goal.returns
returns c = divided-once
