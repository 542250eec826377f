-- The actions that a settings file forbids.
use Rattle.std.specs.Prelude.{ℕ, Bool, true, false, not, ◌&&◌, ◌||◌, ◌==◌, nat_eq, List, [], ◌∷◌, take, Option, None, Some, is_none, option_map, option_and_then, unwrap_or, if◌then◌else◌}
use Rattle.std.specs.List.{list_any}
use Rattle.std.specs.Option.{option_eq}
use Rattle.std.specs.Str.{bytes_eq}
use Rattle.toml.specs.Data.{Items, no_items, item, Members, as_bool, as_array, as_str}
use Rattle.action_table.specs.declared.action.Action.{Action}
use Rattle.action_table.specs.declared.action.Action.TheVariants.{TrainedEye}
use Rattle.action_table.specs.Table.{number_of, key_of, all_actions}
use Rattle.craft_settings.specs.declared.fault.SettingsFault.{SettingsFault}
use Rattle.craft_settings.specs.declared.fault.SettingsFault.TheVariants.{UnknownAction}
use Rattle.craft_settings.specs.Keys.{Row, row_of, trained_eye_key, forbid_key}
use Rattle.craft_settings.specs.Document.{value_of}
use Rattle.craft_settings.specs.Fault.{first_some, when}

-- the flag at a key, false where it is absent
unfoldable pub flag_of : Members → Row → Bool
flag_of doc row = unwrap_or (option_and_then as_bool (value_of doc row)) false

abbrev pub flag_at : Members → ℕ → Bool
flag_at doc place = flag_of doc (row_of place)

-- a name that is there, before the others
abbrev pub with_name : Option (List ℕ) → List (List ℕ) → List (List ℕ)
with_name None ns = ns
with_name (Some n) ns = n ∷ ns

-- the strings of an array
abbrev pub strings_of : Items → List (List ℕ)
strings_of no_items = []
strings_of (item d ds) = with_name (as_str d) (strings_of ds)

abbrev pub listed : Option Items → List (List ℕ)
listed None = []
listed (Some ds) = strings_of ds

-- the names in the array at a key, none where it is absent
unfoldable pub names_of : Members → Row → List (List ℕ)
names_of doc row = listed (option_and_then as_array (value_of doc row))

abbrev pub names : Members → List (List ℕ)
names doc = names_of doc (row_of forbid_key)

-- the actions that a version knows: the first knows those before Trained Eye
abbrev pub known_actions : (two : Bool) → List Action
known_actions true = all_actions
known_actions false = take (number_of TrainedEye) all_actions

-- the action with this key name
unfoldable pub action_of : (two : Bool) → List ℕ → Option Action
action_of two name = first_some (λ action. when (bytes_eq (key_of action) name) action) (known_actions two)

unfoldable pub name_fault : (two : Bool) → List ℕ → Option SettingsFault
name_fault two name = when (is_none (action_of two name)) (UnknownAction name)

-- the first name that is no key name
abbrev pub action_fault : (two : Bool) → Members → Option SettingsFault
action_fault two doc = first_some (name_fault two) (names doc)

-- one of the names is that of the action with the number
abbrev pub are_against : (two : Bool) → List (List ℕ) → ℕ → Bool
are_against two ns n = list_any (λ name. option_eq nat_eq (option_map number_of (action_of two name)) (Some n)) ns

-- Trained Eye is forbidden but where a file of the second version has `recipe.trained_eye` true
abbrev pub lacks_eye : (two : Bool) → Members → Bool
lacks_eye two doc = not (two && flag_at doc trained_eye_key)

-- the document forbids the action with the number
abbrev pub is_ruled_out : (two : Bool) → Members → ℕ → Bool
is_ruled_out two doc n = ((n == number_of TrainedEye) && lacks_eye two doc) || are_against two (names doc) n

abbrev pub bit : Bool → ℕ
bit b = if b then 1 else 0
