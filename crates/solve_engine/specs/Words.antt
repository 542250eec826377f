-- Which words are understood.
use Rattle.std.specs.Prelude.{ℕ, ◌≡◌, List, Option, None, Some, map, string_bytes, String}
use Rattle.std.specs.declared.alloc.Global.{Global}
use Rattle.solve_words.specs.Words.{words_of}
use Rattle.solve_words.specs.declared.words.Command.TheVariants.{Solve, Sample}
use Rattle.solve_words.specs.declared.words.Command.{Command}
use Rattle.solve_words.specs.declared.words.Words.{Words}

-- what the words ask for; none where they aren't of the form
abbrev pub asked : List (String Global) → Option Words
asked words = words_of (map string_bytes words)

-- the words aren't of the form
abbrev pub AreBad : List (String Global) → Type 0
AreBad words = asked words ≡ None

-- the words are of the form, and ask for this
abbrev pub Ask : List (String Global) → Words → Type 0
Ask words given = asked words ≡ Some given

-- the words are of the form, and this is their command
pub record AskTo (command : Command) (words : List (String Global)) : Type 0 where
  pub given : Words
  pub form : Ask words given
  pub is : given.command ≡ command

abbrev pub AskToSolve : List (String Global) → Type 0
AskToSolve = AskTo Solve

-- the words are of the form, and their command is `sample` with a number
pub record AskToSample (words : List (String Global)) : Type 0 where
  pub given : Words
  pub number : ℕ
  pub form : Ask words given
  pub command : given.command ≡ Sample number
