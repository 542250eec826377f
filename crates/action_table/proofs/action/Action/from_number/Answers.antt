use Rattle.action_table.proofs.Names.{number_at}
use Rattle.action_table.proofs.action.Action.from_number.Goals as goal

pub returns-then-n-lt-COUNT : goal.returns-then-n-lt-COUNT
returns-then-n-lt-COUNT c = number_at c.args.n _ c.if-n-lt-COUNT.true
