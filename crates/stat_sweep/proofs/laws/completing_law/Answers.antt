use Rattle.stat_sweep.proofs.Enough.{nothing-base}
use Rattle.stat_sweep.proofs.laws.completing_law.Goals as goal

pub returns : goal.returns
returns c = λ g base. (nothing-base g base g.base_quality, nothing-base g g.base_quality base)
