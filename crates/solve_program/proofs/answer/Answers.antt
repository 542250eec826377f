use Rattle.std.proofs.Common.{subst, sym}
use Rattle.run_io.specs.Statuses.{IsRefusal}
use Rattle.solve_engine.proofs.Ending.{asked_reader}
use Rattle.solve_program.proofs.answer.Goals as goal

pub returns-clause-bad_settings : goal.returns-clause-bad_settings
returns-clause-bad_settings g c is =
    asked_reader c.args.words.now _ _ _ _ c.run.result is (c.run.ensures.ends.refused (subst IsRefusal (sym is) tt))
