use Rattle.std.proofs.Common.{refl}
use Rattle.std.proofs.lemmas.Fn.{says_at}
use Rattle.solve_engine.proofs.sweep.CountedSolver.solve.Goals as goal

pub returns-clause-best : goal.returns-clause-best
returns-clause-best g c = c.requires.ready.1 c.args.g.now c.find.result (says_at g.F.Fn c.find.ensures refl)
