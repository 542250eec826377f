-- What judging a level tells.
use Rattle.std.specs.Prelude.{ℕ, ◌≡◌, ◌<◌, ◌≤◌, ◌+◌, List, [], ◌∷◌, Option, Some, None, length, drop, All}
use Rattle.action_table.specs.declared.action.Action.{Action}
use Rattle.craft_settings.specs.Ranges.{SettingsFields, IsFromTo}
use Rattle.macro_order.specs.declared.scores.Score.{Score}
use Rattle.macro_order.specs.Order.{score_of}
use Rattle.front_check.specs.declared.opening.Opening.{Opening}
use Rattle.front_check.specs.declared.opening.Opening.TheVariants.{BrokenLine, Named}
use Rattle.prefix_fronts.specs.Prefix.{Prefix, empty_prefix}
use Rattle.certificate_text.specs.Text.{line_end, parts}
use Rattle.front_check.specs.declared.level.RowsEnd.{RowsEnd}
use Rattle.front_check.specs.declared.level.RowsEnd.TheVariants.{BrokenRow, Whole}
use Rattle.front_check.specs.declared.level.LevelEnd.{LevelEnd}
use Rattle.front_check.specs.declared.level.LevelEnd.TheVariants.{Broken, Last, Next}
use Rattle.certificate_text.specs.declared.numbers.TheConstants.{MOST_NUMBER}
use Rattle.certificate_laws.specs.Claims.{Claim}
use Rattle.certificate_laws.specs.Lines.{Place, opening, heading, after_row, Reads, Breaks}
use Rattle.front_check.specs.Judging.{IsBegun}

-- a kept prefix of a level
pub record IsKeptAt (g : SettingsFields) (level : ℕ) (p : Prefix) : Type 0 where
  pub begun : IsBegun g p
  pub small : p.seconds ≤ 1000
  pub long : length p.actions ≡ level

abbrev pub AreKept : SettingsFields → ℕ → List Prefix → Type 0
AreKept g level kept = All (IsKeptAt g level) kept

-- so many lines lead from one place to another: what is then found in the lines that are left is found in all
pub record LeadsTo (g : SettingsFields) (place : Place) (lines : List (List ℕ)) (after : Place) (later : List (List ℕ)) (count : ℕ)
    : Type 0 where
  pub reads : (actions : List Action) → Reads g after later actions → Reads g place lines actions
  pub breaks : (number : ℕ) → Breaks g after later number → Breaks g place lines (number + count)

-- the line at the place breaks its rule, or all rows hold and lead to the line of the next level
abbrev pub IsRowsEnd : SettingsFields → Claim → ℕ → List Prefix → List Prefix → List ℕ → RowsEnd → Type 0
IsRowsEnd g claim level kept next text (BrokenRow place) = Breaks g (after_row claim level kept next) (parts line_end text) place
IsRowsEnd g claim level kept next text (Whole from) =
    (from ≤ length text)
    × LeadsTo g
    (after_row claim level kept next) (parts line_end text)
    (heading claim (level + 1) next) (parts line_end (drop from text)) (length kept)

-- the lines of a level lead to the line of the next level, whose kept prefixes these are
pub record IsNextLevel (g : SettingsFields) (claim : Claim) (level : ℕ) (kept : List Prefix) (text : List ℕ) (next : List Prefix) (from : ℕ)
    : Type 0 where
  pub some : 0 < length kept
  pub inside : from ≤ length text
  pub few : length next ≤ MOST_NUMBER
  pub kept_next : AreKept g (level + 1) next
  pub leads : LeadsTo g
      (heading claim level kept) (parts line_end text)
      (heading claim (level + 1) next) (parts line_end (drop from text)) (length kept + 1)

-- the line at the place, counted from that of the level, breaks its rule; or the text ends with it; or all its lines
-- lead to the line of the next level, whose kept prefixes these are
abbrev pub IsLevelEnd : SettingsFields → Claim → ℕ → List Prefix → List ℕ → LevelEnd → Type 0
IsLevelEnd g claim level kept text (Broken place) = Breaks g (heading claim level kept) (parts line_end text) place
IsLevelEnd g claim level kept text Last = Reads g (heading claim level kept) (parts line_end text) claim.actions
IsLevelEnd g claim level kept text (Next next from) =
    IsNextLevel g claim level kept text next.items from

-- all lines from that of level 0 on are read to the end, or this is the first that breaks its rule
abbrev pub IsJudged : SettingsFields → Claim → List ℕ → Option ℕ → Type 0
IsJudged g claim text None = Reads g (heading claim 0 (empty_prefix g ∷ [])) (parts line_end text) claim.actions
IsJudged g claim text (Some place) = Breaks g (heading claim 0 (empty_prefix g ∷ [])) (parts line_end text) place

-- the first two lines name these, and lead to the line of level 0
pub record IsNamed (g : SettingsFields) (text : List ℕ) (grain : ℕ) (actions : List Action) (score : Score) (from : ℕ) : Type 0 where
  pub range : IsFromTo 1 64 grain
  pub scored : score_of g actions ≡ Some score
  pub inside : from ≤ length text
  pub leads : LeadsTo g
      opening (parts line_end text)
      (heading (record { g = g; grain = grain; actions = actions; score = score }) 0 (empty_prefix g ∷ []))
      (parts line_end (drop from text)) 2

-- one of the first two lines is the first that breaks its rule, or they name a macro
abbrev pub IsOpening : SettingsFields → List ℕ → Opening → Type 0
IsOpening g text (BrokenLine place) = Breaks g opening (parts line_end text) place
IsOpening g text (Named grain actions score from) = IsNamed g text grain actions.items score from
