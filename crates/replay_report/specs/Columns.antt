-- Text in columns.
use Rattle.std.specs.Prelude.{ℕ, ◌-◌, List, ◌++◌, length, replicate}
use Rattle.std.specs.Fmt.{decimal}

-- so many spaces
abbrev pub spaces : ℕ → List ℕ
spaces count = replicate count 32

-- a number right in a column
abbrev pub right : (width n : ℕ) → List ℕ
right width n = spaces (width - length (decimal n)) ++ decimal n

-- a text left in a column
abbrev pub left : ℕ → List ℕ → List ℕ
left width text = text ++ spaces (width - length text)
