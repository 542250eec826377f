-- What is read, and the settings that are in it.
use Rattle.std.specs.Prelude.{ℕ, ◌≡◌, ◌<◌, ◌≤◌, ◌↔◌, List, Some, length}
use Rattle.craft_io.specs.Views.{Gives, HasEnded, SourceView}
use Rattle.craft_settings.specs.Ranges.{SettingsFields}
use Rattle.craft_settings.specs.Accepts.{Accepts}
use Rattle.craft_settings.specs.Reading.{file_fault, max_length}
use Rattle.craft_settings.specs.declared.fault.SettingsFault.{SettingsFault}
use Rattle.craft_settings.specs.declared.fault.SettingsFault.TheVariants.{TooLong}
use Rattle.run_io.specs.FaultLine.{settings_line}

-- the input of a run: all bytes of the source, or as many as are read at most
pub record Reads (most : ℕ) (input : List ℕ) (before after : SourceView) : Type 0 where
  pub gives : Gives input before after
  pub within : length input ≤ most
  pub end : length input < most → HasEnded after

-- the input is all that the source had
abbrev pub ReadsAll : List ℕ → SourceView → SourceView → Type 0
ReadsAll input before after = Gives input before after × HasEnded after

-- the bytes are accepted as these settings and no others
pub record AcceptsOnly (bytes : List ℕ) (g : SettingsFields) : Type 0 where
  pub accepted : Accepts bytes g
  pub only : (other : SettingsFields) → Accepts bytes other → other ≡ g

-- the bytes are refused as settings, and this line tells their fault; they are too long exactly where they are more
-- than settings may have
pub record RefusesSettings (bytes line : List ℕ) : Type 0 where
  pub fault : SettingsFault
  pub first : file_fault bytes ≡ Some fault
  pub long : (fault ≡ TooLong) ↔ (max_length < length bytes)
  pub told : line ≡ settings_line fault
