use Rattle.priced_laws.proofs.Reaching.{are_limits, AreLimits-both, reaches-done, reaches-more}
use Rattle.priced_laws.proofs.test_law.Goals as goal

pub returns-clause-alone : goal.returns-clause-alone
returns-clause-alone c = are_limits

pub returns-clause-together : goal.returns-clause-together
returns-clause-together c = AreLimits-both

pub returns-clause-done : goal.returns-clause-done
returns-clause-done c = reaches-done

pub returns-clause-order : goal.returns-clause-order
returns-clause-order c = reaches-more
