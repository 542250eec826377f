use Rattle.std.proofs.Common.{arith}
use Rattle.solve_words.specs.declared.words.Command.TheVariants.{Solve, Resume, Sweep, Replay, Check, Certify, Verify}
use Rattle.run_io.proofs.Runs.{answer_ends, halt_ends}
use Rattle.solve_engine.specs.Commands.{Answers, most_read}
use Rattle.solve_engine.specs.Words.{asked}
use Rattle.solve_engine.proofs.Ending.{answer_read, short}
use Rattle.solve_engine.proofs.top.run.Goals as goal

pub returns-in-Ok-clause-solve : goal.returns-in-Ok-clause-solve
returns-in-Ok-clause-solve g c =
    λ asked result.
    let both = answer_read c.args.words.now c.in-Ok.answer c.write_answer.result _ _ c.in-Ok.ensures.done c.write_answer.ensures.status Solve (omega arith) asked _ _ result (c.write_answer.ensures.whole result) in
    (both.input, both.all, both.writes)

pub returns-in-Ok-clause-resume : goal.returns-in-Ok-clause-resume
returns-in-Ok-clause-resume g c =
    λ done asked result. answer_read c.args.words.now c.in-Ok.answer c.write_answer.result _ _ c.in-Ok.ensures.done c.write_answer.ensures.status (Resume done) (omega arith) asked _ _ result (c.write_answer.ensures.whole result)

pub returns-in-Ok-clause-sweep : goal.returns-in-Ok-clause-sweep
returns-in-Ok-clause-sweep g c =
    λ asked result. answer_read c.args.words.now c.in-Ok.answer c.write_answer.result _ _ c.in-Ok.ensures.done c.write_answer.ensures.status Sweep (omega arith) asked _ _ result (c.write_answer.ensures.whole result)

pub returns-in-Ok-clause-replay : goal.returns-in-Ok-clause-replay
returns-in-Ok-clause-replay g c =
    λ asked result. answer_read c.args.words.now c.in-Ok.answer c.write_answer.result _ _ c.in-Ok.ensures.done c.write_answer.ensures.status Replay (omega arith) asked _ _ result (c.write_answer.ensures.whole result)

pub returns-in-Ok-clause-check : goal.returns-in-Ok-clause-check
returns-in-Ok-clause-check g c =
    λ asked result. answer_read c.args.words.now c.in-Ok.answer c.write_answer.result _ _ c.in-Ok.ensures.done c.write_answer.ensures.status Check (omega arith) asked _ _ result (c.write_answer.ensures.whole result)

pub returns-in-Ok-clause-certify : goal.returns-in-Ok-clause-certify
returns-in-Ok-clause-certify g c =
    λ asked result. answer_read c.args.words.now c.in-Ok.answer c.write_answer.result _ _ c.in-Ok.ensures.done c.write_answer.ensures.status Certify (omega arith) asked _ _ result (c.write_answer.ensures.whole result)

pub returns-in-Ok-clause-verify : goal.returns-in-Ok-clause-verify
returns-in-Ok-clause-verify g c =
    λ asked result. answer_read c.args.words.now c.in-Ok.answer c.write_answer.result _ _ c.in-Ok.ensures.done c.write_answer.ensures.status Verify (omega arith) asked _ _ result (c.write_answer.ensures.whole result)

pub returns-in-Ok-clause-ends : goal.returns-in-Ok-clause-ends
returns-in-Ok-clause-ends g c =
    answer_ends (asked c.args.words.now) most_read Answers c.in-Ok.answer c.write_answer.result _ _ _ _ _ _ c.in-Ok.ensures.done
    (λ given input has some row. short given.command given input c.in-Ok.answer.status c.in-Ok.answer.text.items has some row)
    c.write_answer.ensures.status c.write_answer.ensures.part c.write_answer.ensures.faults c.write_answer.ensures.told

pub returns-in-Err-clause-ends : goal.returns-in-Err-clause-ends
returns-in-Err-clause-ends g c =
    halt_ends (asked c.args.words.now) most_read Answers c.in-Err.halt c.tell.result _ _ _ _ _ c.in-Err.ensures.done c.tell.ensures.status c.tell.ensures.told
