-- Which actions a macro text names, and which line of another text is the first that isn't understood.
use Rattle.std.specs.Prelude.{ℕ, ◌≡◌, ◌+◌, List, [], ◌∷◌, ◌++◌, length, All}
use Rattle.action_table.specs.declared.action.Action.{Action}
use Rattle.macro_read.specs.declared.fault.MacroFault.{MacroFault}
use Rattle.macro_read.specs.declared.fault.MacroFault.TheVariants.{BadLine, WantMemory}
use Rattle.macro_read.specs.declared.lines.Line.{Line}
use Rattle.macro_read.specs.declared.lines.Line.TheVariants.{Names}
use Rattle.macro_read.specs.Lines.{Text, lines_of, IsOfKind}

-- the action that a line of a kind names, if it names one, and then these
abbrev pub named_then : Line → List Action → List Action
named_then (Names action) actions = action ∷ actions
named_then _ actions = actions

-- the lines are of the three kinds, and name these actions in order
abbrev pub AllName : List Text → List Action → Type 0
AllName [] actions = actions ≡ []
AllName (line ∷ lines) actions =
    (kind : Line) × ((rest : List Action) × (IsOfKind line kind × AllName lines rest × (actions ≡ named_then kind rest)))

-- the text names these actions, and each of its lines is of one of the three kinds
abbrev pub IsMacroText : Text → List Action → Type 0
IsMacroText text actions = AllName (lines_of text) actions

-- the line is of one of the three kinds
abbrev pub IsUnderstood : Text → Type 0
IsUnderstood line = (kind : Line) × IsOfKind line kind

-- this is the number, counted from 1, of the first line that is of none of the three kinds
pub record IsFirstOfNoKind (lines : List Text) (number : ℕ) : Type 0 where
  pub before : List Text
  pub line : Text
  pub after : List Text
  pub parts : lines ≡ before ++ (line ∷ after)
  pub place : number ≡ length before + 1
  pub understood : All IsUnderstood before
  pub no_kind : IsUnderstood line → ⊥

-- why a text isn't read: no list of actions fits, and the line is the first of none of the three kinds
abbrev pub IsFault : Text → MacroFault → Type 0
IsFault text (BadLine line) = IsFirstOfNoKind (lines_of text) line × ((actions : List Action) → IsMacroText text actions → ⊥)
IsFault text WantMemory = Unit {0}
