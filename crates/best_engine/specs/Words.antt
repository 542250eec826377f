-- What the words ask for, and what is read and answered for it.
use Rattle.std.specs.Prelude.{ℕ, List, Option, Result, map, string_bytes, String}
use Rattle.std.specs.declared.alloc.Global.{Global}
use Rattle.craft_io.specs.Views.{SourceView}
use Rattle.run_io.specs.Answering.{Rows}
use Rattle.run_io.specs.Ends.{Devices, EndsOf}
use Rattle.run_io.specs.Tasks.{IsDoneOf, TaskOf, most_asked}
use Rattle.run_io.specs.declared.answer.Answer.{Answer}
use Rattle.run_io.specs.declared.halt.Halt.{Halt}
use Rattle.run_io.specs.declared.reading.TheConstants.{READ_MOST}
use Rattle.run_io.specs.declared.status.Status.{Status}
use Rattle.solve_words.specs.Best.{best_words_of}
use Rattle.best_engine.specs.Best.{BestAnswers}

-- how many workers the words ask for; none where they aren't of the form
abbrev pub asked : List (String Global) → Option ℕ
asked words = best_words_of (map string_bytes words)

-- a settings file is read for any number of workers, and the answer is the same
abbrev pub most_of : ℕ → ℕ
most_of workers = READ_MOST

abbrev pub Answers : ℕ → List ℕ → Rows
Answers workers input = BestAnswers input

-- the most bytes that are read for words; none for words that aren't of the form
abbrev pub most_for : List (String Global) → ℕ
most_for words = most_asked most_of (asked words)

-- what the words ask for, and the input that was read for it
abbrev pub Task : List (String Global) → SourceView → SourceView → Type 0
Task words before after = TaskOf (asked words) most_of before after

-- what words come to before anything is written
abbrev pub IsDone : List (String Global) → Result Answer Halt → SourceView → SourceView → Type 0
IsDone words result before after = IsDoneOf (asked words) most_of Answers result before after

-- how a run with these words ends: what its status means, and what it did to its devices
abbrev pub Ends : List (String Global) → Status → Devices → Devices → Type 0
Ends words = EndsOf (asked words) most_of Answers
