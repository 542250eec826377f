-- What line 2 names.
use Rattle.std.specs.Prelude.{ℕ, ◌≡◌, List, ◌++◌, codes}
use Rattle.std.specs.Fmt.{decimal}
use Rattle.action_table.specs.declared.action.Action.{Action}
use Rattle.action_table.specs.Table.{number_of}
use Rattle.certificate_text.specs.Text.{best_line}

-- a space and the number of an action
abbrev pub action_word : Action → List ℕ
action_word action = codes " " ++ decimal (number_of action)

-- the line names no macro
abbrev pub NamesNone : List ℕ → Type 0
NamesNone line = (m : List Action) → line ≡ best_line m → ⊥

-- the line names no other macro than this
abbrev pub Names : List ℕ → List Action → Type 0
Names line actions = (m : List Action) → line ≡ best_line m → m ≡ actions
