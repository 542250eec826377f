-- Why there is no text.
use Rattle.std.specs.Prelude.{ℕ, ◌≡◌, List, Result, Ok, Err, ⊤}
use Rattle.craft_io.specs.Causes.{next_count}
use Rattle.craft_io.specs.Views.{GivesAtMost, GivesFewer, ReadsAtMostTimes, SourceView}
use Rattle.run_io.specs.Answering.{Rows}
use Rattle.run_io.specs.FaultLine.{words_line, read_line, memory_line}
use Rattle.run_io.specs.Reading.{Reads, RefusesSettings}
use Rattle.run_io.specs.Statuses.{IsRefusal, IsResult}
use Rattle.run_io.specs.declared.answer.Answer.{Answer}
use Rattle.run_io.specs.declared.halt.Halt.{Halt}
use Rattle.run_io.specs.declared.halt.Halt.TheVariants.{BadWords, ReadFault, Refused, WantMemory}
use Rattle.run_io.specs.declared.status.Status.{Status}
use Rattle.run_io.specs.declared.status.Status.TheVariants.{BadSettings, BadWords as BadWordsStatus, ReadFault as ReadFaultStatus, WantMemory as WantMemoryStatus}

-- the status of each halt
abbrev pub status_of : Halt → Status
status_of BadWords = BadWordsStatus
status_of ReadFault = ReadFaultStatus
status_of (Refused refusal) = refusal.status
status_of WantMemory = WantMemoryStatus

-- the line of each halt
abbrev pub line_of : Halt → List ℕ
line_of BadWords = words_line
line_of ReadFault = read_line
line_of (Refused refusal) = refusal.line.items
line_of WantMemory = memory_line

-- why no input came: where a read failed, fewer bytes had come than are read at most
abbrev pub IsHaltOfReading : ℕ → Halt → SourceView → SourceView → Type 0
IsHaltOfReading most ReadFault before after = GivesFewer most before after
IsHaltOfReading most WantMemory before after = ⊤
IsHaltOfReading most _ before after = ⊥

-- what came in is refused with this status and one of these lines; memory may be wanted in its place
abbrev pub IsHaltBy : Status → (List ℕ → Type 0) → Halt → Type 0
IsHaltBy status lines (Refused refusal) = (refusal.status ≡ status) × lines refusal.line.items
IsHaltBy status lines WantMemory = ⊤
IsHaltBy status lines _ = ⊥

-- why there are no settings in the bytes
abbrev pub IsHaltOfSettings : List ℕ → Halt → Type 0
IsHaltOfSettings bytes = IsHaltBy BadSettings (RefusesSettings bytes)

-- a failed read is counted once, and every other end leaves the count as it was
abbrev pub CountsHalt : {T : Type 0} → Result T Halt → ℕ → ℕ → Type 0
CountsHalt (Err ReadFault) faults faults' = faults' ≡ next_count faults
CountsHalt _ faults faults' = faults' ≡ faults

-- the answer is a result that stands in these rows
abbrev pub IsAnswerIn : Rows → Answer → Type 0
IsAnswerIn rows answer = IsResult answer.status × rows answer.status answer.text.items

-- the answer stands in these rows, or the refusal does; memory may be wanted in their place
abbrev pub IsIn : Rows → Result Answer Halt → Type 0
IsIn rows (Ok answer) = IsAnswerIn rows answer
IsIn rows (Err (Refused refusal)) = IsRefusal refusal.status × rows refusal.status refusal.line.items
IsIn rows (Err WantMemory) = ⊤
IsIn rows (Err _) = ⊥

-- what was read is answered or refused by the command's table, unless a read fails or memory is wanted
abbrev pub IsOutcome : (table : List ℕ → Rows) → ℕ → Result Answer Halt → SourceView → SourceView → Type 0
IsOutcome table most (Err ReadFault) before after = GivesFewer most before after
IsOutcome table most (Err WantMemory) before after = ⊤
IsOutcome table most result before after = (input : List ℕ) × Reads most input before after × IsIn (table input) result

-- an outcome, and what it did to the source
pub record RunsTo (table : List ℕ → Rows) (most : ℕ) (result : Result Answer Halt) (before after : SourceView) : Type 0 where
  pub outcome : IsOutcome table most result before after
  pub faults : CountsHalt result before.faults after.faults
  pub at_most : GivesAtMost most before after
  pub times : ReadsAtMostTimes most before after
