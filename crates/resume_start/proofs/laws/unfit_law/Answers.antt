use Rattle.resume_start.proofs.Apart.{not-both}
use Rattle.resume_start.proofs.laws.unfit_law.Goals as goal

pub returns : goal.returns
returns c = not-both
