-- What the holes of a format write, in the library's words.
use Rattle.std.specs.Prelude.{ℕ, ◌-◌, ◌^◌, false, List, [], ◌∷◌, codes}
use Rattle.std.specs.List.{concat}
use Rattle.std.specs.Fmt.{decimal, padded, padded_integral, format_spec}

-- `{n:>width}` of a number: fill 32, side 3 (right), no precision
abbrev pub number_hole : (width n : ℕ) → List ℕ
number_hole width n = padded_integral (format_spec 32 3 0 width (2 ^ 64 - 1)) false [] (decimal n)

-- `{text:<width}` of a text: side 1 (left)
abbrev pub text_hole : ℕ → List ℕ → List ℕ
text_hole width text = padded (format_spec 32 1 0 width (2 ^ 64 - 1)) text

-- the columns of a line of the table
abbrev pub column_holes : ℕ → List ℕ → (progress quality durability cp : ℕ) → List ℕ
column_holes number name progress quality durability cp =
    concat (number_hole 3 number ∷ codes " " ∷ text_hole 20 name ∷ number_hole 7 progress ∷ number_hole 7 quality
    ∷ number_hole 4 durability ∷ number_hole 5 cp ∷ [])
