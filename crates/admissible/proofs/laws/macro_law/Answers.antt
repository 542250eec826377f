use Rattle.admissible.proofs.Reached.{limit-run, within-run}
use Rattle.admissible.proofs.laws.macro_law.Goals as goal

pub returns-clause-limit : goal.returns-clause-limit
returns-clause-limit c = λ g grain s actions low within first live whole.
    limit-run g grain s whole.last actions low within first live whole.ran whole.complete

pub returns-clause-within : goal.returns-clause-within
returns-clause-within c = λ g grain s actions low within first live whole.
    within-run g grain s whole.last actions low within first live whole.ran whole.complete
