-- How the lines of a certificate are read, and which is the first that breaks a rule.
use Rattle.std.specs.Prelude.{ℕ, zero, suc, ◌≡◌, ◌⊎◌, ◌+◌, List, [], ◌∷◌, ◌++◌, length, Some}
use Rattle.action_table.specs.declared.action.Action.{Action}
use Rattle.craft_settings.specs.Ranges.{SettingsFields, IsFromTo}
use Rattle.macro_order.specs.declared.scores.Score.{Score}
use Rattle.macro_order.specs.Order.{score_of}
use Rattle.prefix_fronts.specs.Prefix.{Prefix, empty_prefix}
use Rattle.certificate_text.specs.declared.verdict.Verdict.{Verdict}
use Rattle.certificate_text.specs.Text.{line_end, parts, first_line, best_line, level_line, IsRow}
use Rattle.certificate_laws.specs.Claims.{Claim, legal_after, RowHolds, kept_of}

-- what is to come: line 1; line 2, after this grain; the line of a level with these kept prefixes; the line of the first
-- of these prefixes of a level, whose rows keep the others; or nothing more
pub data Place : Type 0 where
  opening : Place
  naming : ℕ → Place
  heading : Claim → ℕ → List Prefix → Place
  judging : Claim → ℕ → List Prefix → List Prefix → Place
  ending : Claim → Place

-- the line is one verdict for each legal action after the prefix
pub record Fits (g : SettingsFields) (p : Prefix) (line : List ℕ) (verdicts : List Verdict) : Type 0 where
  pub says : IsRow verdicts line
  pub each : length verdicts ≡ length (legal_after g p)

-- the prefixes that the rows of a level keep; where a line is missing, or isn't one verdict for each legal action, only
-- the rows before it count
abbrev pub Keeps : SettingsFields → List Prefix → List (List ℕ) → List Prefix → Type 0
Keeps g [] lines next = next ≡ []
Keeps g (p ∷ kept) [] next = next ≡ []
Keeps g (p ∷ kept) (line ∷ lines) next =
    (((verdicts : List Verdict) → Fits g p line verdicts → ⊥) × (next ≡ []))
    ⊎ ((verdicts : List Verdict) × ((later : List Prefix) × (
    Fits g p line verdicts
    × Keeps g kept lines later
    × (next ≡ kept_of g p (legal_after g p) verdicts ++ later)
    )))

-- what comes after the line of a level
abbrev pub after_level : Claim → ℕ → List Prefix → List Prefix → Place
after_level claim k [] next = ending claim
after_level claim k (p ∷ kept) next = judging claim k (p ∷ kept) next

-- what comes after the line of a kept prefix, where these are left
abbrev pub after_row : Claim → ℕ → List Prefix → List Prefix → Place
after_row claim k [] next = heading claim (k + 1) next
after_row claim k (p ∷ kept) next = judging claim k (p ∷ kept) next

-- the line obeys the rule of its place, before these lines; what comes then
abbrev pub Obeys : SettingsFields → Place → List ℕ → List (List ℕ) → Place → Type 0
Obeys g opening line later after =
    (grain : ℕ) × (IsFromTo 1 64 grain × (line ≡ first_line grain) × (after ≡ naming grain))
Obeys g (naming grain) line later after =
    (actions : List Action) × ((score : Score) × (
    (score_of g actions ≡ Some score)
    × (line ≡ best_line actions)
    × (after ≡ heading (record { g = g; grain = grain; actions = actions; score = score }) 0 (empty_prefix g ∷ []))
    ))
Obeys g (heading claim k kept) line later after =
    (next : List Prefix) × (
    (line ≡ level_line k (length kept))
    × Keeps claim.g kept later next
    × (after ≡ after_level claim k kept next)
    )
Obeys g (judging claim k [] next) line later after = ⊥
Obeys g (judging claim k (p ∷ kept) next) line later after =
    (verdicts : List Verdict) × (
    IsRow verdicts line
    × RowHolds claim next p (legal_after claim.g p) verdicts
    × (after ≡ after_row claim k kept next)
    )
Obeys g (ending claim) line later after = ⊥

-- nothing is left, where nothing more is to come
abbrev pub Ends : Place → List ℕ → List Action → Type 0
Ends (ending claim) rest actions = (rest ≡ []) × (claim.actions ≡ actions)
Ends opening rest actions = ⊥
Ends (naming grain) rest actions = ⊥
Ends (heading claim k kept) rest actions = ⊥
Ends (judging claim k kept next) rest actions = ⊥

-- each line obeys its rule, to the end; the last part is what follows the end of the last line
abbrev pub Reads : SettingsFields → Place → List (List ℕ) → List Action → Type 0
Reads g place [] actions = ⊥
Reads g place (rest ∷ []) actions = Ends place rest actions
Reads g place (line ∷ next ∷ later) actions =
    (after : Place) × (Obeys g place line (next ∷ later) after × Reads g after (next ∷ later) actions)

-- the first line that breaks the rule of its place, counted from 0: the last part is a line that is missing or not ended
abbrev pub Breaks : SettingsFields → Place → List (List ℕ) → ℕ → Type 0
Breaks g place [] number = ⊥
Breaks g place (rest ∷ []) number = (number ≡ 0) × ((actions : List Action) → Ends place rest actions → ⊥)
Breaks g place (line ∷ next ∷ later) zero = (after : Place) → Obeys g place line (next ∷ later) after → ⊥
Breaks g place (line ∷ next ∷ later) (suc number) =
    (after : Place) × (Obeys g place line (next ∷ later) after × Breaks g after (next ∷ later) number)

-- the line of this number, counted from 1, is the first that breaks a rule
abbrev pub IsFirstFault : SettingsFields → List ℕ → ℕ → Type 0
IsFirstFault g bytes line = (before : ℕ) × ((line ≡ before + 1) × Breaks g opening (parts line_end bytes) before)
