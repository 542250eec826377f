use Rattle.step_rules.specs.Legality.{start_of}
use Rattle.admissible.proofs.Reached.{first-macro, potential-start, potential-reached}
use Rattle.admissible.proofs.laws.start_law.Goals as goal

pub returns-clause-start : goal.returns-clause-start
returns-clause-start c = potential-start

pub returns-clause-reached : goal.returns-clause-reached
returns-clause-reached c = λ g actions s settings ran. potential-reached g s actions settings ran

pub returns-clause-later : goal.returns-clause-later
returns-clause-later c = λ g actions s some ran. first-macro g (start_of g) s actions some ran
