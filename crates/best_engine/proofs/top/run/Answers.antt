use Rattle.std.proofs.Common.{arith}
use Rattle.run_io.proofs.Endings.{short_row}
use Rattle.run_io.proofs.Runs.{answer_ends, halt_ends}
use Rattle.run_io.proofs.Tasks.{answer_whole}
use Rattle.best_engine.specs.Best.{BestOf}
use Rattle.best_engine.specs.Words.{Answers, asked, most_of}
use Rattle.best_engine.proofs.top.run.Goals as goal

pub returns-in-Ok-clause-best : goal.returns-in-Ok-clause-best
returns-in-Ok-clause-best g c =
    λ result.
    let answer = c.in-Ok.answer in
    let done = c.in-Ok.ensures.done in
    answer_whole (asked c.args.words.now) most_of Answers answer c.write_answer.result _ _ _ _ done c.write_answer.ensures.status done.comes.0.given done.comes.0.form result
    (λ input has row. let within = short_row BestOf input answer.status answer.text.items has row in omega arith) (c.write_answer.ensures.whole result)

pub returns-in-Ok-clause-ends : goal.returns-in-Ok-clause-ends
returns-in-Ok-clause-ends g c =
    let answer = c.in-Ok.answer in
    answer_ends (asked c.args.words.now) most_of Answers answer c.write_answer.result _ _ _ _ _ _ c.in-Ok.ensures.done
    (λ workers input has _ row. let within = short_row BestOf input answer.status answer.text.items has row in omega arith)
    c.write_answer.ensures.status c.write_answer.ensures.part c.write_answer.ensures.faults c.write_answer.ensures.told

pub returns-in-Err-clause-ends : goal.returns-in-Err-clause-ends
returns-in-Err-clause-ends g c =
    halt_ends (asked c.args.words.now) most_of Answers c.in-Err.halt c.tell.result _ _ _ _ _ c.in-Err.ensures.done c.tell.ensures.status c.tell.ensures.told
