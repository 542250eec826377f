use Rattle.worker_gate.proofs.Cuts.{cuts_once}
use Rattle.worker_gate.proofs.ranges_law.Goals as goal

pub returns : goal.returns
returns c = cuts_once c.args.len c.args.workers c.requires.low
