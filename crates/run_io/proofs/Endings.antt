-- Results are no faults, and come only of settings that were read whole.
use Rattle.std.proofs.Common.{◌≡◌, ◌≤◌, ℕ, List, length, refl, subst}
use Rattle.craft_settings.specs.Ranges.{SettingsFields}
use Rattle.craft_settings.specs.Reading.{max_length}
use Rattle.run_io.specs.Answering.{CountsWriteFault, Rows, WithSettings}
use Rattle.run_io.specs.Statuses.{IsResult}
use Rattle.run_io.specs.declared.status.Status.{Status}
use Rattle.run_io.specs.declared.status.Status.TheVariants.{Solved, NoMacro, BadWords, BadSettings, ReadFault, WriteFault, WantMemory, BadPrefix, NotReached, BadMacro, StoppedMacro, NotBest, BadCertificate}

pub no_write_fault : (s : Status) → IsResult s → s ≡ WriteFault → ⊥
no_write_fault s result is = subst IsResult is result

pub kept_write : (s : Status) (faults faults' : ℕ) → (s ≡ WriteFault → ⊥) → faults' ≡ faults → CountsWriteFault s faults faults'
kept_write Solved faults faults' other same = same
kept_write NoMacro faults faults' other same = same
kept_write BadWords faults faults' other same = same
kept_write BadSettings faults faults' other same = same
kept_write ReadFault faults faults' other same = same
kept_write WriteFault faults faults' other same = absurd (other refl)
kept_write WantMemory faults faults' other same = same
kept_write BadPrefix faults faults' other same = same
kept_write NotReached faults faults' other same = same
kept_write BadMacro faults faults' other same = same
kept_write StoppedMacro faults faults' other same = same
kept_write NotBest faults faults' other same = same
kept_write BadCertificate faults faults' other same = same

-- settings that are answered with a result were read whole
pub short_row : (rows : SettingsFields → Rows) (input : List ℕ) (s : Status) (text : List ℕ) → IsResult s → WithSettings rows input s text → length input ≤ max_length
short_row rows input Solved text result row = row.1.accepted.short
short_row rows input NoMacro text result row = row.1.accepted.short
short_row rows input BadWords text result row = absurd result
short_row rows input BadSettings text result row = absurd result
short_row rows input ReadFault text result row = absurd result
short_row rows input WriteFault text result row = absurd result
short_row rows input WantMemory text result row = absurd result
short_row rows input BadPrefix text result row = absurd result
short_row rows input NotReached text result row = row.1.accepted.short
short_row rows input BadMacro text result row = absurd result
short_row rows input StoppedMacro text result row = row.1.accepted.short
short_row rows input NotBest text result row = row.1.accepted.short
short_row rows input BadCertificate text result row = absurd result
