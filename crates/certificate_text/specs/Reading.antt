-- What reading a row tells.
use Rattle.std.specs.Prelude.{ℕ, true, ◌≡◌, List, map, length, min}
use Rattle.std.specs.Str.Parse.{digits_value}
use Rattle.certificate_text.specs.declared.verdict.Verdict.{Verdict}
use Rattle.certificate_text.specs.declared.verdict.Verdict.TheVariants.{Dominated}
use Rattle.certificate_text.specs.declared.numbers.TheConstants.{MOST_NUMBER}
use Rattle.certificate_text.specs.Text.{is_number, Says, IsRow}

-- the text is a number, which is read so: the numbers above the greatest are read as that
pub record IsReadNumber (text : List ℕ) (found : ℕ) : Type 0 where
  pub digits : is_number text ≡ true
  pub value : found ≡ min (digits_value 10 text) MOST_NUMBER

-- a verdict with a place above the greatest number is read as one with that place
abbrev pub as_read : Verdict → Verdict
as_read (Dominated place) = Dominated (min place MOST_NUMBER)
as_read verdict = verdict

-- the word is that of a verdict, which is read so
abbrev pub IsRead : List ℕ → Verdict → Type 0
IsRead word found = (verdict : Verdict) × (Says verdict word × (found ≡ as_read verdict))

-- the line isn't so many verdicts
abbrev pub IsNoRow : List ℕ → ℕ → Type 0
IsNoRow line count = (verdicts : List Verdict) → IsRow verdicts line → length verdicts ≡ count → ⊥

-- the line is so many verdicts, which are read so
abbrev pub IsReadRow : List ℕ → ℕ → List Verdict → Type 0
IsReadRow line count found =
    (verdicts : List Verdict) × (IsRow verdicts line × (length verdicts ≡ count) × (found ≡ map as_read verdicts))
