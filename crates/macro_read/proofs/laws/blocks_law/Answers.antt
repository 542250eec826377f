use Rattle.macro_read.proofs.Written.{named-again}
use Rattle.macro_read.proofs.laws.blocks_law.Goals as goal

pub returns : goal.returns
returns c = named-again
