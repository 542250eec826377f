-- What words ask for, and what it comes to. `asked` is what they ask for, and none where they aren't of the form; as much
-- is read for it at most as `most` says, and `answers` has the rows for what was read.
use Rattle.std.specs.Prelude.{ℕ, ◌≡◌, List, Option, None, Some, Result, Err, ⊤}
use Rattle.craft_io.specs.Views.{GivesAtMost, GivesFewer, ReadsAtMostTimes, SourceView}
use Rattle.run_io.specs.Answering.{Rows}
use Rattle.run_io.specs.Halts.{CountsHalt, IsIn}
use Rattle.run_io.specs.Reading.{Reads}
use Rattle.run_io.specs.declared.answer.Answer.{Answer}
use Rattle.run_io.specs.declared.halt.Halt.{Halt}
use Rattle.run_io.specs.declared.halt.Halt.TheVariants.{BadWords, ReadFault, WantMemory}

-- the most bytes that are read for words; none for words that aren't of the form
abbrev pub most_asked : {W : Type 0} → (W → ℕ) → Option W → ℕ
most_asked most None = 0
most_asked most (Some given) = most given

-- what the words ask for, and the input that was read for it
pub record TaskOf {W : Type 0} (asked : Option W) (most : W → ℕ) (before after : SourceView) : Type 0 where
  pub given : W
  pub form : asked ≡ Some given
  pub input : List ℕ
  pub reads : Reads (most given) input before after

-- what the words ask for is answered by its rows, or a read fails; or the words aren't of the form
abbrev pub ComesToOf : {W : Type 0} → Option W → (W → ℕ) → (W → List ℕ → Rows) → Result Answer Halt → SourceView → SourceView → Type 0
ComesToOf asked most answers (Err BadWords) before after = asked ≡ None
ComesToOf {W} asked most answers (Err ReadFault) before after = (given : W) × (asked ≡ Some given) × GivesFewer (most given) before after
ComesToOf asked most answers (Err WantMemory) before after = ⊤
ComesToOf asked most answers result before after = (task : TaskOf asked most before after) × IsIn (answers task.given task.input) result

-- the words aren't of the form, or memory is wanted
abbrev pub IsHaltOfWords : Result Answer Halt → Type 0
IsHaltOfWords (Err BadWords) = ⊤
IsHaltOfWords (Err WantMemory) = ⊤
IsHaltOfWords _ = ⊥

-- what the words come to before anything is written, and what that did to the source
pub record IsDoneOf {W : Type 0} (asked : Option W) (most : W → ℕ) (answers : W → List ℕ → Rows)
    (result : Result Answer Halt) (before after : SourceView) : Type 0 where
  pub comes : ComesToOf asked most answers result before after
  pub bad : asked ≡ None → IsHaltOfWords result
  pub faults : CountsHalt result before.faults after.faults
  pub at_most : GivesAtMost (most_asked most asked) before after
  pub times : ReadsAtMostTimes (most_asked most asked) before after
