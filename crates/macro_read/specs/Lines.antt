-- The lines of macro text, as a player may write them.
use Rattle.std.specs.Prelude.{ℕ, ◌≡◌, ◌≤◌, ◌==◌, ◌⊎◌, List, [], ◌++◌, length, map, codes, All}
use Rattle.std.specs.Char.{IsAsciiDigit}
use Rattle.std.specs.List.{slice_split}
use Rattle.std.specs.Str.Lines.{strip_carriage_return}
use Rattle.action_table.specs.declared.action.Action.{Action}
use Rattle.action_table.specs.Table.{display_name_of}
use Rattle.macro_read.specs.declared.lines.Line.{Line}
use Rattle.macro_read.specs.declared.lines.Line.TheVariants.{Empty, Heading, Names}

abbrev pub Text : Type 0
Text = List ℕ

-- LF
abbrev pub line_end : ℕ
line_end = 10

-- the lines of a text: LF ends each but the last one, which the end of the text ends; where that ends with LF, the last
-- line is empty. One CR before the end of a line isn't part of it
abbrev pub lines_of : Text → List Text
lines_of text = map strip_carriage_return (slice_split (λ byte. byte == line_end) text)

-- one ASCII digit or more, up to so many
pub record IsNumber (most : ℕ) (text : Text) : Type 0 where
  pub some : 1 ≤ length text
  pub few : length text ≤ most
  pub digits : All IsAsciiDigit text

-- the heading of a block: `macro`, one space, and one to three digits
pub record IsHeading (line : Text) : Type 0 where
  pub number : Text
  pub is_number : IsNumber 3 number
  pub text : line ≡ codes "macro " ++ number

-- what may follow the name of an action: one space and `<wait.N>` with one or two digits N
pub record IsWait (text : Text) : Type 0 where
  pub number : Text
  pub is_number : IsNumber 2 number
  pub wait : text ≡ codes " <wait." ++ (number ++ codes ">")

-- the word that uses an action
abbrev pub IsCommand : Text → Type 0
IsCommand word = (word ≡ codes "/ac") ⊎ (word ≡ codes "/action")

-- the line of an action: `/ac` or `/action`, one space, the display name in quotation marks, and perhaps a wait
pub record IsActionLine (action : Action) (line : Text) : Type 0 where
  pub command : Text
  pub wait : Text
  pub is_command : IsCommand command
  pub is_wait : (wait ≡ []) ⊎ IsWait wait
  pub text : line ≡ command ++ (codes " \"" ++ (display_name_of action ++ (codes "\"" ++ wait)))

-- the three kinds of line: it is empty, or the heading of a block, or names an action
abbrev pub IsOfKind : Text → Line → Type 0
IsOfKind line Empty = line ≡ []
IsOfKind line Heading = IsHeading line
IsOfKind line (Names action) = IsActionLine action line
