use Rattle.admissible.proofs.Limits.{move-law, move-potential, rest-law, limit-law, within-law}
use Rattle.admissible.proofs.Potential.{potential_falls}
use Rattle.admissible.proofs.step_law.Goals as goal

pub returns-clause-move_state : goal.returns-clause-move_state
returns-clause-move_state c listed = rw (c.relax.ensures.value, c.step.ensures.value) (move-law _ _ _ _ record { step = record { within = c.requires.within; legal = c.requires.legal; live = c.requires.live }; first = c.requires.later; low = c.requires.low })

pub returns-clause-move_potential : goal.returns-clause-move_potential
returns-clause-move_potential c listed = move-potential c.args.g.now c.args.grain _ _ record { step = record { within = c.requires.within; legal = c.requires.legal; live = c.requires.live }; first = c.requires.later; low = c.requires.low } listed

pub returns-clause-rest_state : goal.returns-clause-rest_state
returns-clause-rest_state c rest = rw (c.relax.ensures.value, c.step.ensures.value) (rest-law _ _ _ _ record { step = record { within = c.requires.within; legal = c.requires.legal; live = c.requires.live }; first = c.requires.later; low = c.requires.low } rest)

pub returns-clause-rest_potential : goal.returns-clause-rest_potential
returns-clause-rest_potential c rest = potential_falls _ _ _ record { within = c.requires.within; legal = c.requires.legal; live = c.requires.live }

pub returns-clause-limit : goal.returns-clause-limit
returns-clause-limit c = limit-law _ _ _ _ record { step = record { within = c.requires.within; legal = c.requires.legal; live = c.requires.live }; first = c.requires.later; low = c.requires.low }

pub returns-clause-within : goal.returns-clause-within
returns-clause-within c j some = within-law _ _ _ _ j record { step = record { within = c.requires.within; legal = c.requires.legal; live = c.requires.live }; first = c.requires.later; low = c.requires.low } some
