use Rattle.solve_engine.proofs.Once.{one_status}
use Rattle.solve_engine.proofs.laws.one_status_law.Goals as goal

pub returns : goal.returns
returns c = λ given input. one_status given.command given input
