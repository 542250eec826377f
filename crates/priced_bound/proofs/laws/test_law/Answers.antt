use Rattle.priced_bound.proofs.Told.{bound-limits, bounds-limits}
use Rattle.priced_bound.proofs.laws.test_law.Goals as goal

pub returns-clause-alone : goal.returns-clause-alone
returns-clause-alone c = λ b target are. bound-limits b target are

pub returns-clause-together : goal.returns-clause-together
returns-clause-together c = λ g bounds target of. bounds-limits g bounds target of
