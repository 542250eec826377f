use Rattle.stat_sweep.proofs.Enough.{enough-more}
use Rattle.stat_sweep.proofs.laws.enough_law.Goals as goal

pub returns : goal.returns
returns c = enough-more
