use Rattle.walk_table.specs.Words.{lanes}
use Rattle.walk_table.proofs.Lanes.{some_at, some_len}
use Rattle.walk_table.proofs.kernels.where_some.Goals as goal

pub returns-clause-lanes : goal.returns-clause-lanes
returns-clause-lanes c k lt = some_at lanes c.args.from c.args.a k c.fits-from.0 c.fits-a.0 lt

pub returns-clause-len : goal.returns-clause-len
returns-clause-len c = some_len lanes c.args.from c.args.a c.fits-from.0 c.fits-a.0
