use Rattle.priced_laws.proofs.Seeing.{seen-move, seen-rest}
use Rattle.priced_laws.proofs.Worth.{worth-move, worth-rest}
use Rattle.priced_laws.proofs.step_law.Goals as goal

pub returns-clause-move_seen : goal.returns-clause-move_seen
returns-clause-move_seen c = seen-move

pub returns-clause-move_worth : goal.returns-clause-move_worth
returns-clause-move_worth c = worth-move

pub returns-clause-rest_seen : goal.returns-clause-rest_seen
returns-clause-rest_seen c = seen-rest

pub returns-clause-rest_worth : goal.returns-clause-rest_worth
returns-clause-rest_worth c = worth-rest
