use Rattle.admissible.proofs.Limits.{last-limit, last-within}
use Rattle.admissible.proofs.last_law.Goals as goal

pub returns-clause-limit : goal.returns-clause-limit
returns-clause-limit c = rw c.step.ensures.value (last-limit _ _ _ _ record { step = record { within = c.requires.within; legal = c.requires.legal; done = c.requires.complete }; first = c.requires.later; low = c.requires.low })

pub returns-clause-within : goal.returns-clause-within
returns-clause-within c j some = rw c.step.ensures.value (last-within _ _ _ _ j record { step = record { within = c.requires.within; legal = c.requires.legal; done = c.requires.complete }; first = c.requires.later; low = c.requires.low } some)
