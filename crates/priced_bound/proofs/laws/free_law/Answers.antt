use Rattle.priced_bound.proofs.Told.{bound-free}
use Rattle.priced_bound.proofs.laws.free_law.Goals as goal

pub returns : goal.returns
returns c = λ b s action left are free step many. bound-free b s action left are free step many
