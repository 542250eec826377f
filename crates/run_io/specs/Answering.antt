-- What a command answers to its input, and what that does to the source and the sinks. A command is a table: its
-- rows say which statuses come for which input, and with which bytes. Those of a result are its text for `out`,
-- and those of a refusal its line for `err`.
use Rattle.std.specs.Prelude.{ℕ, ◌≡◌, ◌≤◌, ◌+◌, List, length, take, Option, Some}
use Rattle.craft_io.specs.Causes.{Rose, next_count}
use Rattle.craft_io.specs.Views.{Gains, GainsPart, SinkView, SourceView}
use Rattle.craft_settings.specs.Ranges.{SettingsFields}
use Rattle.run_io.specs.Reading.{AcceptsOnly, ReadsAll, RefusesSettings}
use Rattle.run_io.specs.Statuses.{IsResult}
use Rattle.run_io.specs.declared.status.Status.{Status}
use Rattle.run_io.specs.declared.status.Status.TheVariants.{BadSettings, ReadFault, WriteFault}

-- the rows of a command for one input: a status, and its bytes
abbrev pub Rows : Type 1
Rows = Status → List ℕ → Type 0

-- the status has a row
abbrev pub HasRow : Rows → Status → Type 0
HasRow rows status = (bytes : List ℕ) × rows status bytes

-- a command over settings: bytes that are no settings are refused first, and settings are answered by its rows for them
abbrev pub WithSettings : (SettingsFields → Rows) → List ℕ → Rows
WithSettings rows input BadSettings line = RefusesSettings input line
WithSettings rows input status bytes = (g : SettingsFields) × AcceptsOnly input g × rows g status bytes

-- the text of the row was written whole
pub record Writes (rows : Rows) (status : Status) (out out' : SinkView) : Type 0 where
  pub text : List ℕ
  pub is : rows status text
  pub gains : Gains text out out'

-- all that the source had was read, and the text of its row was written whole
pub record ReadsAndWrites (table : List ℕ → Rows) (status : Status) (before after : SourceView) (out out' : SinkView) : Type 0 where
  pub input : List ℕ
  pub all : ReadsAll input before after
  pub writes : Writes (table input) status out out'

-- a part of the text of a result's row was written, and not the whole
pub record WritesPart (rows : Rows) (out out' : SinkView) : Type 0 where
  pub status : Status
  pub result : IsResult status
  pub text : List ℕ
  pub is : rows status text
  pub gains : GainsPart text out out'

-- the line was written, or a part of it where the count of faults rose
pub record Tells (line : List ℕ) (before after : SinkView) : Type 0 where
  pub count : ℕ
  pub within : count ≤ length line
  pub part : Gains (take count line) before after
  pub whole : (Rose before.faults after.faults → ⊥) → Gains line before after

-- the line of the row was told
pub record Refuses (rows : Rows) (status : Status) (err err' : SinkView) : Type 0 where
  pub line : List ℕ
  pub is : rows status line
  pub tells : Tells line err err'

-- the told bytes have become so many fewer
abbrev pub LosesTold : ℕ → Option (List ℕ) → Option (List ℕ) → Type 0
LosesTold count (Some before) (Some after) = length before ≡ count + length after
LosesTold count _ _ = ⊥

-- so many bytes were given, where they are told
abbrev pub GivesTold : ℕ → SourceView → SourceView → Type 0
GivesTold count before after = LosesTold count before.left after.left

-- a failed read is told and counted once, and every other status leaves the source's count as it was
abbrev pub CountsReadFault : Status → ℕ → ℕ → Type 0
CountsReadFault ReadFault faults faults' = faults' ≡ next_count faults
CountsReadFault _ faults faults' = faults' ≡ faults

-- a failed write is told and counted once, and every other status leaves the sink's count as it was
abbrev pub CountsWriteFault : Status → ℕ → ℕ → Type 0
CountsWriteFault WriteFault faults faults' = faults' ≡ next_count faults
CountsWriteFault _ faults faults' = faults' ≡ faults
