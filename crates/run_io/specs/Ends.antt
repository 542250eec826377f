-- How a run ends: what its status means, and what it did to its devices.
use Rattle.std.specs.Prelude.{ℕ, ◌≡◌, ◌≢◌, ◌↔◌, ◌⊎◌, ◌≤◌, List, Option, None, Some, IfSome}
use Rattle.craft_io.specs.Causes.{Rose}
use Rattle.craft_io.specs.Views.{GivesAtMost, GivesFewer, ReadsAtMostTimes, SinkView, SourceView}
use Rattle.run_io.specs.Answering.{CountsReadFault, CountsWriteFault, GivesTold, HasRow, Refuses, Rows, Tells, WritesPart}
use Rattle.run_io.specs.Statuses.{IsRefusal, fault_line}
use Rattle.run_io.specs.Tasks.{TaskOf, most_asked}
use Rattle.run_io.specs.declared.status.Status.{Status}
use Rattle.run_io.specs.declared.status.Status.TheVariants.{BadWords, ReadFault, WriteFault, WantMemory}

-- what is seen of the source and the sinks of a run
pub record Devices : Type 0 where
  pub source : SourceView
  pub out : SinkView
  pub err : SinkView

-- the end of a run, whatever the words ask for. `asked` is what they ask for, and none where they aren't of the form; as
-- much is read for it at most as `most` says, and `answers` has the rows for what was read
pub record EndsOf {W : Type 0} (asked : Option W) (most : W → ℕ) (answers : W → List ℕ → Rows)
    (status : Status) (before after : Devices) : Type 0 where
  -- what was read is answered, with a result or a refusal, unless a read or a write fails or memory runs out
  pub complete : (given : W) → asked ≡ Some given
      → (1 ≤ most given → Rose before.source.faults after.source.faults → ⊥)
      → (Rose before.out.faults after.out.faults → ⊥)
      → (status ≡ WantMemory) ⊎ ((task : TaskOf asked most before.source after.source) × HasRow (answers task.given task.input) status)
  -- what was read is refused, and the line of its fault was told
  pub refused : IsRefusal status
      → (task : TaskOf asked most before.source after.source) × Refuses (answers task.given task.input) status before.err after.err
  -- a write failed; a part of the text of the result was written, and not the whole
  pub part : status ≡ WriteFault
      → (task : TaskOf asked most before.source after.source) × WritesPart (answers task.given task.input) before.out after.out
  -- a read failed, before as much was read as is read at most
  pub read_fault : status ≡ ReadFault → (given : W) × (asked ≡ Some given) × GivesFewer (most given) before.source after.source
  -- the words aren't of the form
  pub bad_words : (status ≡ BadWords) ↔ ((asked ≡ None) × (status ≢ WantMemory))
  -- where one byte too many was read, what was read is refused or memory is wanted, and no read failed
  pub too_long : 1 ≤ most_asked most asked → GivesTold (most_asked most asked) before.source after.source
      → IsRefusal status ⊎ (status ≡ WantMemory)
  -- a failed call of the source or of `out` is always told, and none is tried again
  pub read_count : CountsReadFault status before.source.faults after.source.faults
  pub write_count : CountsWriteFault status before.out.faults after.out.faults
  -- how much is read
  pub at_most : GivesAtMost (most_asked most asked) before.source after.source
  pub times : ReadsAtMostTimes (most_asked most asked) before.source after.source
  -- what is told on `err`, beside the lines of refusals
  pub told : IfSome (fault_line status) (λ line. Tells line before.err after.err)
