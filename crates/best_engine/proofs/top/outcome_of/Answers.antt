use Rattle.run_io.proofs.Tasks.{done_by}
use Rattle.best_engine.specs.Words.{Answers, asked, most_of}
use Rattle.best_engine.proofs.top.outcome_of.Goals as goal

pub returns-in-Ok-clause-done : goal.returns-in-Ok-clause-done
returns-in-Ok-clause-done g c = done_by (asked c.args.words.now) most_of Answers c.in-Ok.workers c.carry_out.result _ _ c.in-Ok.ensures.ok c.carry_out.ensures
