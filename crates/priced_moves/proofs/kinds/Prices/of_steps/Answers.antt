use Rattle.priced_moves.proofs.Special.{AreFair-steps}
use Rattle.priced_moves.proofs.kinds.Prices.of_steps.Goals as goal

pub returns-clause-fair : goal.returns-clause-fair
returns-clause-fair c = AreFair-steps c.args.g.now
