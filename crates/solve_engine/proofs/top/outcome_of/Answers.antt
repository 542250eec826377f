use Rattle.run_io.proofs.Tasks.{done_by}
use Rattle.solve_engine.specs.Commands.{Answers, most_read}
use Rattle.solve_engine.specs.Words.{asked}
use Rattle.solve_engine.proofs.top.outcome_of.Goals as goal

pub returns-in-Ok-clause-done : goal.returns-in-Ok-clause-done
returns-in-Ok-clause-done g c = done_by (asked c.args.words.now) most_read Answers c.in-Ok.given c.carry_out.result _ _ c.in-Ok.ensures.ok c.carry_out.ensures.runs
