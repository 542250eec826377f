-- The commands: how much each reads, and what it answers.
use Rattle.std.specs.Prelude.{ℕ, ◌≡◌, List, Result, String}
use Rattle.std.specs.declared.alloc.Global.{Global}
use Rattle.craft_io.specs.Views.{SourceView}
use Rattle.run_io.specs.Answering.{Rows}
use Rattle.run_io.specs.Ends.{Devices, EndsOf}
use Rattle.run_io.specs.Tasks.{IsDoneOf, TaskOf, most_asked}
use Rattle.run_io.specs.declared.answer.Answer.{Answer}
use Rattle.run_io.specs.declared.halt.Halt.{Halt}
use Rattle.run_io.specs.declared.reading.TheConstants.{READ_MOST}
use Rattle.run_io.specs.declared.status.Status.{Status}
use Rattle.solve_words.specs.declared.words.Command.{Command}
use Rattle.solve_words.specs.declared.words.Command.TheVariants.{Solve, Sample, Resume, Sweep, Replay, Check, Certify, Verify}
use Rattle.solve_words.specs.declared.words.Words.{Words}
use Rattle.solve_engine.specs.Certify.{CertifyAnswers}
use Rattle.solve_engine.specs.Check.{CheckAnswers}
use Rattle.solve_engine.specs.Replay.{ReplayAnswers}
use Rattle.solve_engine.specs.Resume.{ResumeAnswers}
use Rattle.solve_engine.specs.Sample.{SampleAnswers}
use Rattle.solve_engine.specs.Solve.{SolveAnswers}
use Rattle.solve_engine.specs.Sweep.{SweepAnswers}
use Rattle.solve_engine.specs.Verify.{VerifyAnswers}
use Rattle.solve_engine.specs.Words.{asked}
use Rattle.solve_engine.specs.declared.verify.TheConstants.{READ_TEXT}

-- the most bytes that a command reads
abbrev pub most_of : Command → ℕ
most_of Solve = READ_MOST
most_of (Sample n) = 0
most_of (Resume done) = READ_MOST
most_of Sweep = READ_MOST
most_of Replay = READ_MOST
most_of Check = READ_MOST
most_of Certify = READ_MOST
most_of Verify = READ_TEXT

-- what a command answers to its input
abbrev pub AnswersOf : Command → Words → List ℕ → Rows
AnswersOf Solve given input = SolveAnswers given input
AnswersOf (Sample n) given input = SampleAnswers given n
AnswersOf (Resume done) given input = ResumeAnswers done input
AnswersOf Sweep given input = SweepAnswers input
AnswersOf Replay given input = ReplayAnswers input
AnswersOf Check given input = CheckAnswers given input
AnswersOf Certify given input = CertifyAnswers given input
AnswersOf Verify given input = VerifyAnswers input

-- what the words ask for is answered so
abbrev pub Answers : Words → List ℕ → Rows
Answers given = AnswersOf given.command given

-- no two rows have different statuses
abbrev pub HasOneStatus : Rows → Type 0
HasOneStatus rows = (s t : Status) (bytes other : List ℕ) → rows s bytes → rows t other → s ≡ t

-- the most bytes that are read for what the words ask for
abbrev pub most_read : Words → ℕ
most_read given = most_of given.command

-- the most bytes that are read for words; none for words that aren't of the form
abbrev pub most_for : List (String Global) → ℕ
most_for words = most_asked most_read (asked words)

-- what the words ask for, and the input that was read for it
abbrev pub Task : List (String Global) → SourceView → SourceView → Type 0
Task words before after = TaskOf (asked words) most_read before after

-- what words come to before anything is written
abbrev pub IsDone : List (String Global) → Result Answer Halt → SourceView → SourceView → Type 0
IsDone words result before after = IsDoneOf (asked words) most_read Answers result before after

-- how a run with these words ends: what its status means, and what it did to its devices
abbrev pub Ends : List (String Global) → Status → Devices → Devices → Type 0
Ends words = EndsOf (asked words) most_read Answers
