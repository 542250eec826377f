-- The first line of a text.
use Rattle.std.specs.Prelude.{ℕ, ◌+◌, ◌==◌, [], ◌∷◌, if◌then◌else◌}
use Rattle.macro_read.specs.Lines.{Text, line_end}

-- how many bytes the first line has, with its LF
abbrev pub first_line_length : Text → ℕ
first_line_length [] = 0
first_line_length (byte ∷ text) = if byte == line_end then 1 else first_line_length text + 1
