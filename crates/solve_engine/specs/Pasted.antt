-- A macro that is pasted after settings.
use Rattle.std.specs.Prelude.{ℕ, ◌≡◌, List, [], ◌∷◌, Option, None, Some, Err, codes}
use Rattle.std.specs.List.{concat}
use Rattle.std.specs.Fmt.{decimal}
use Rattle.action_table.specs.declared.action.Action.{Action}
use Rattle.craft_settings.specs.Ranges.{SettingsFields}
use Rattle.macro_read.specs.Lines.{lines_of}
use Rattle.macro_read.specs.Reading.{IsFirstOfNoKind, IsMacroText}
use Rattle.run_io.specs.Answering.{Rows}
use Rattle.run_io.specs.Halts.{IsHaltBy, IsIn}
use Rattle.run_io.specs.Reading.{AcceptsOnly}
use Rattle.run_io.specs.declared.halt.Halt.{Halt}
use Rattle.run_io.specs.declared.status.Status.TheVariants.{BadMacro}
use Rattle.solve_engine.specs.Input.{Parts, WithRest}

abbrev pub no_mark_line : List ℕ
no_mark_line = codes "macro: no --- line\n"

abbrev pub bad_line : ℕ → List ℕ
bad_line number = concat (codes "macro: line " ∷ decimal number ∷ codes " not understood\n" ∷ [])

-- no macro fits the text, and this tells the first of its lines that isn't understood
pub record FitsNoMacro (text told : List ℕ) : Type 0 where
  pub none : (m : List Action) → IsMacroText text m → ⊥
  pub line : ℕ
  pub first : IsFirstOfNoKind (lines_of text) line
  pub is : told ≡ bad_line line

-- nothing follows the settings, or what follows them is no macro text
abbrev pub RefusesMacro : Option (List ℕ) → List ℕ → Type 0
RefusesMacro None told = told ≡ no_mark_line
RefusesMacro (Some text) told = FitsNoMacro text told

-- why there is no macro after the settings
abbrev pub IsHaltOfMacro : Option (List ℕ) → Halt → Type 0
IsHaltOfMacro rest = IsHaltBy BadMacro (RefusesMacro rest)

-- what follows the settings is the text of this macro
abbrev pub IsPasted : Option (List ℕ) → List Action → Type 0
IsPasted None m = ⊥
IsPasted (Some text) m = IsMacroText text m

-- a command over a macro that is pasted after settings: what is no macro is refused first, and a macro is answered by
-- its rows for it
abbrev pub WithMacro : (SettingsFields → List Action → Rows) → SettingsFields → Option (List ℕ) → Rows
WithMacro rows g rest BadMacro line = RefusesMacro rest line
WithMacro rows g rest status bytes = (m : List Action) × IsPasted rest m × rows g m status bytes

-- the input has these settings and no others, and this macro
pub record IsInput (input : List ℕ) (g : SettingsFields) (m : List Action) : Type 0 where
  pub parts : Parts input
  pub accepted : AcceptsOnly parts.settings g
  pub pasted : IsPasted parts.rest m

-- nothing is answered to any macro
abbrev pub Unanswered : SettingsFields → List Action → Rows
Unanswered g m status bytes = ⊥

-- why an input has no settings or no macro
abbrev pub IsHaltOfInput : List ℕ → Halt → Type 0
IsHaltOfInput input halt = IsIn (WithRest (WithMacro Unanswered) input) (Err halt)
