use Rattle.stat_sweep.proofs.Bases.{ends_no_less}
use Rattle.stat_sweep.proofs.laws.quality_law.Goals as goal

pub returns : goal.returns
returns c = λ g less more h m s ran. ends_no_less g less more m s h ran
