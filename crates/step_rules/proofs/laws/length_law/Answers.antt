use Rattle.step_rules.proofs.Runs.{length-by-measure, length-macro}
use Rattle.step_rules.proofs.laws.length_law.Goals as goal

pub returns-clause-by_measure : goal.returns-clause-by_measure
returns-clause-by_measure c = λ g settings actions last ran. length-by-measure g last actions settings ran

pub returns-clause-by_number : goal.returns-clause-by_number
returns-clause-by_number c = λ g settings actions last ran. length-macro g last actions settings ran
