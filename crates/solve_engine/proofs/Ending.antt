-- The clauses of a run follow from what its words come to.
use Rattle.std.proofs.Common.{◌≡◌, ◌<◌, ◌≤◌, ◌⊎◌, ℕ, List, String, length, subst, ap, arith, Ok}
use Rattle.std.specs.declared.alloc.Global.{Global}
use Rattle.craft_io.specs.Views.{Gains, SinkView, SourceView}
use Rattle.run_io.specs.Answering.{ReadsAndWrites, Refuses}
use Rattle.run_io.specs.Statuses.{IsResult}
use Rattle.run_io.specs.Tasks.{most_asked}
use Rattle.run_io.specs.declared.answer.Answer.{Answer}
use Rattle.run_io.specs.declared.status.Status.{Status}
use Rattle.run_io.specs.declared.status.Status.TheVariants.{BadSettings, WriteFault}
use Rattle.run_io.proofs.Endings.{short_row}
use Rattle.run_io.proofs.Tasks.{answer_whole}
use Rattle.solve_words.specs.declared.words.Command.{Command}
use Rattle.solve_words.specs.declared.words.Command.TheVariants.{Solve, Sample, Resume, Sweep, Replay, Check, Certify, Verify}
use Rattle.solve_words.specs.declared.words.Words.{Words}
use Rattle.solve_engine.specs.Commands.{Answers, AnswersOf, IsDone, Task, most_for, most_of, most_read}
use Rattle.solve_engine.specs.Certify.{CertifiesTo}
use Rattle.solve_engine.specs.Check.{ChecksTo}
use Rattle.solve_engine.specs.Replay.{PlaysTo}
use Rattle.solve_engine.specs.Resume.{ResumesTo}
use Rattle.solve_engine.specs.Solve.{SolvesTo}
use Rattle.solve_engine.specs.Sweep.{SweepsTo}
use Rattle.solve_engine.specs.Words.{AskTo, asked}
use Rattle.solve_engine.proofs.Inputs.{short_macro}
use Rattle.solve_engine.proofs.Proved.{short_proof}

-- a result comes only where less was read than is read at most
pub short : (c : Command) (given : Words) (input : List ℕ) (s : Status) (text : List ℕ) → IsResult s → 1 ≤ most_of c → AnswersOf c given input s text → length input < most_of c
short Solve given input s text result some row = let within = short_row (SolvesTo given) input s text result row in omega arith
short (Sample n) given input s text result some row = absurd (omega (arith, some))
short (Resume done) given input s text result some row = let within = short_row (ResumesTo done) input s text result row in omega arith
short Sweep given input s text result some row = let within = short_row SweepsTo input s text result row in omega arith
short Replay given input s text result some row = let within = short_macro PlaysTo input s text result row in omega arith
short Check given input s text result some row = let within = short_macro (ChecksTo given.grain) input s text result row in omega arith
short Certify given input s text result some row = let within = short_row (CertifiesTo given.grain) input s text result row in omega arith
short Verify given input s text result some row = let within = short_proof input s text result row in omega arith

-- a command that reads has read all, and has written the text of its row
pub answer_read : (words : List (String Global)) (a : Answer) (r : Status) (before after : SourceView) → IsDone words (Ok a) before after → (r ≡ a.status) ⊎ (r ≡ WriteFault)
    → (command : Command) → 1 ≤ most_of command → (to : AskTo command words) → (out out' : SinkView) → IsResult r → Gains a.text.items out out'
    → ReadsAndWrites (AnswersOf command to.given) r before after out out'
answer_read words a r before after done ends command some to out out' result gains =
    let same : most_of to.given.command ≡ most_of command = ap most_of to.is in
    subst (λ (c : Command). ReadsAndWrites (AnswersOf c to.given) r before after out out') to.is
    (answer_whole (asked words) most_read Answers a r before after out out' done ends to.given to.form result
    (λ input has row. short to.given.command to.given input a.status a.text.items has (omega (arith, same, some)) row) gains)

reader_refuses : (c : Command) (given : Words) (input line : List ℕ) → AnswersOf c given input BadSettings line → 1 ≤ most_of c
reader_refuses Solve given input line row = omega arith
reader_refuses (Sample n) given input line row = absurd row
reader_refuses (Resume done) given input line row = omega arith
reader_refuses Sweep given input line row = omega arith
reader_refuses Replay given input line row = omega arith
reader_refuses Check given input line row = omega arith
reader_refuses Certify given input line row = omega arith
reader_refuses Verify given input line row = omega arith

-- only a command that reads refuses settings
pub asked_reader : (words : List (String Global)) (before after : SourceView) (err err' : SinkView) (r : Status) → r ≡ BadSettings
    → (task : Task words before after) × Refuses (Answers task.given task.input) r err err' → 1 ≤ most_for words
asked_reader words before after err err' r is refused =
    let task = refused.0 in
    let row : Answers task.given task.input BadSettings refused.1.line = subst (λ (s : Status). Answers task.given task.input s refused.1.line) is refused.1.is in
    let some = reader_refuses task.given.command task.given task.input refused.1.line row in
    let most : most_for words ≡ most_of task.given.command = ap (most_asked most_read) task.form in
    omega (arith, some, most)
