-- A certificate as a value, and its text, line by line.
use Rattle.std.specs.Prelude.{ℕ, Bool, true, ◌≡◌, ◌+◌, ◌==◌, ◌&&◌, ◌||◌, not, nat_lt, if◌then◌else◌, codes}
use Rattle.std.specs.Prelude.{List, [], ◌∷◌, ◌++◌, length, slice_index}
use Rattle.std.specs.Char.{is_ascii_digit}
use Rattle.std.specs.List.{list_all, flat_map}
use Rattle.std.specs.Fmt.{decimal}
use Rattle.std.specs.Str.Parse.{digits_value}
use Rattle.action_table.specs.declared.action.Action.{Action}
use Rattle.action_table.specs.Table.{number_of}
use Rattle.certificate_text.specs.declared.verdict.Verdict.{Verdict}
use Rattle.certificate_text.specs.declared.verdict.Verdict.TheVariants.{Complete, Failed, Limited, Late, Dominated, Kept}

abbrev pub line_end : ℕ
line_end = 10

abbrev pub space : ℕ
space = 32

-- one more byte in front of the first part
abbrev pub in_front : ℕ → List (List ℕ) → List (List ℕ)
in_front byte [] = (byte ∷ []) ∷ []
in_front byte (part ∷ rest) = (byte ∷ part) ∷ rest

-- what stands before, between and after the places of a byte
abbrev pub parts : ℕ → List ℕ → List (List ℕ)
parts mark [] = [] ∷ []
parts mark (byte ∷ bytes) = if byte == mark then [] ∷ parts mark bytes else in_front byte (parts mark bytes)

-- one digit or more, the first of which is not 0 unless it is the only one
abbrev pub is_number : List ℕ → Bool
is_number text =
    nat_lt 0 (length text) && list_all is_ascii_digit text && (length text == 1 || not (slice_index text 0 == 48))

-- the text is that of a number
pub record IsNumber (text : List ℕ) (number : ℕ) : Type 0 where
  pub digits : is_number text ≡ true
  pub value : digits_value 10 text ≡ number

-- line 1
abbrev pub first_line : ℕ → List ℕ
first_line grain = codes "raphael certificate 1 grain " ++ decimal grain

-- line 2
abbrev pub best_line : List Action → List ℕ
best_line actions = codes "best" ++ flat_map (λ action. codes " " ++ decimal (number_of action)) actions

-- the line that begins a level: its number, and how many kept prefixes follow
abbrev pub level_line : ℕ → ℕ → List ℕ
level_line level count = codes "level " ++ (decimal level ++ (codes " " ++ decimal count))

-- the text of a verdict
abbrev pub Says : Verdict → List ℕ → Type 0
Says Complete text = text ≡ codes "c"
Says Failed text = text ≡ codes "f"
Says Limited text = text ≡ codes "q"
Says Late text = text ≡ codes "s"
Says (Dominated place) text = (digits : List ℕ) × (text ≡ codes "d" ++ digits) × IsNumber digits place
Says Kept text = text ≡ codes "k"

-- each text is that of its verdict
abbrev pub AllSay : List Verdict → List (List ℕ) → Type 0
AllSay [] [] = Unit {0}
AllSay [] (text ∷ texts) = ⊥
AllSay (verdict ∷ verdicts) [] = ⊥
AllSay (verdict ∷ verdicts) (text ∷ texts) = Says verdict text × AllSay verdicts texts

-- the line of a kept prefix: its verdicts, joined by single spaces
abbrev pub IsRow : List Verdict → List ℕ → Type 0
IsRow [] line = line ≡ []
IsRow (verdict ∷ verdicts) line = AllSay (verdict ∷ verdicts) (parts space line)

-- the lines of the kept prefixes of a level
abbrev pub AreRows : List (List Verdict) → List (List ℕ) → Type 0
AreRows [] [] = Unit {0}
AreRows [] (line ∷ lines) = ⊥
AreRows (row ∷ rows) [] = ⊥
AreRows (row ∷ rows) (line ∷ lines) = IsRow row line × AreRows rows lines

-- the lines of the levels from one on: the last level has no kept prefix, and nothing follows the end of its line
abbrev pub AreLevels : ℕ → List (List (List Verdict)) → List (List ℕ) → Type 0
AreLevels level [] lines = lines ≡ level_line level 0 ∷ [] ∷ []
AreLevels level (rows ∷ levels) lines =
    (here : List (List ℕ)) × ((later : List (List ℕ)) × (
    (lines ≡ level_line level (length rows) ∷ (here ++ later))
    × AreRows rows here
    × AreLevels (level + 1) levels later
    ))

-- the grain of the limits, the macro, and level by level the verdicts after each kept prefix; the last level, which has
-- no kept prefix, is left out
pub record Certificate : Type 0 where
  pub grain : ℕ
  pub actions : List Action
  pub levels : List (List (List Verdict))

-- the bytes are the text of the certificate; what stands after the end of the last line is empty
pub record IsText (certificate : Certificate) (bytes : List ℕ) : Type 0 where
  pub later : List (List ℕ)
  pub lines : parts line_end bytes ≡ first_line certificate.grain ∷ best_line certificate.actions ∷ later
  pub shown : AreLevels 0 certificate.levels later
