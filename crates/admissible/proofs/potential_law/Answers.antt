use Rattle.admissible.proofs.Potential.{potential_falls}
use Rattle.admissible.proofs.potential_law.Goals as goal

pub returns-clause-law : goal.returns-clause-law
returns-clause-law c = rw (c.potential.ensures.value, c.step.ensures.value) (potential_falls _ _ _ record { within = c.requires.within; legal = c.requires.legal; live = c.requires.live })
