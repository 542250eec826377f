use Rattle.std.proofs.Common.{sym}
use Rattle.stat_sweep.proofs.Small.{none_of_three}
use Rattle.stat_sweep.proofs.tests.completes_nowhere.Goals as goal

pub returns : goal.returns
returns c = λ _. none_of_three c.args.g.now c.requires.level c.requires.durability c.requires.progress (sym c.in-None.ensures) (sym c.in-None-score.ensures) (sym c.in-None-score-2.ensures)
