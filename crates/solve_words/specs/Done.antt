-- The actions that an option's value lists.
use Rattle.std.specs.Prelude.{ℕ, ◌≡◌, ◌<◌, ◌==◌, true, List, [], ◌∷◌, length, map, Option, Some, option_map, option_and_then}
use Rattle.std.specs.List.{join_with_byte, slice_split}
use Rattle.action_table.specs.declared.action.Action.{Action}
use Rattle.action_table.specs.Table.{key_of}
use Rattle.craft_settings.specs.Names.{action_of}
use Rattle.solve_words.specs.Form.{Text}

-- the ASCII comma
abbrev pub comma : ℕ
comma = 44

-- the actions with these key names; none where one of them is no action's
abbrev pub actions_named : List Text → Option (List Action)
actions_named [] = Some []
actions_named (name ∷ names) =
    option_and_then (λ action. option_map (λ actions. action ∷ actions) (actions_named names)) (action_of true name)

-- the actions that the parts of a text between its commas name
unfoldable pub done_of : Text → Option (List Action)
done_of text = actions_named (slice_split (λ byte. byte == comma) text)

-- the text is the key names of these actions, of which there is one at least, joined by single commas
pub record IsListOf (text : Text) (done : List Action) : Type 0 where
  pub some : 0 < length done
  pub is : text ≡ join_with_byte comma (map key_of done)
