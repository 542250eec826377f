-- The parts of an input: settings, and what follows them after the line `---`.
use Rattle.std.specs.Prelude.{ℕ, ◌≡◌, ◌<◌, ◌≤◌, ◌⊎◌, List, Option, None, Some, length}
use Rattle.craft_settings.specs.Ranges.{SettingsFields}
use Rattle.craft_settings.specs.Reading.{max_length}
use Rattle.macro_read.specs.Mark.{IsDivided, IsMarkedBetween}
use Rattle.run_io.specs.Answering.{Rows}
use Rattle.run_io.specs.Reading.{AcceptsOnly, RefusesSettings}
use Rattle.run_io.specs.declared.status.Status.TheVariants.{BadSettings}

-- no line of the input is `---`
abbrev pub IsUnmarked : List ℕ → Type 0
IsUnmarked input = (before after : List ℕ) → IsMarkedBetween input before after → ⊥

-- the settings of an input, and what follows the first line `---`, if there is such a line; an input of more bytes than
-- may come isn't divided
abbrev pub AreParts : (most : ℕ) → (input settings : List ℕ) → Option (List ℕ) → Type 0
AreParts most input settings None = (settings ≡ input) × ((most < length input) ⊎ IsUnmarked input)
AreParts most input settings (Some rest) = (length input ≤ most) × IsDivided input settings rest

-- the parts of an input of at most so many bytes as settings may have
pub record Parts (input : List ℕ) : Type 0 where
  pub settings : List ℕ
  pub rest : Option (List ℕ)
  pub are : AreParts max_length input settings rest

-- a command over settings and what follows them: settings that are none are refused first, and the rest is answered by
-- its rows for the settings
abbrev pub WithRest : (SettingsFields → Option (List ℕ) → Rows) → List ℕ → Rows
WithRest rows input BadSettings line = (parts : Parts input) × RefusesSettings parts.settings line
WithRest rows input status bytes =
    (parts : Parts input) × (g : SettingsFields) × AcceptsOnly parts.settings g × rows g parts.rest status bytes
