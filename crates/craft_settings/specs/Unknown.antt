-- The keys that the list doesn't have.
use Rattle.std.specs.Prelude.{ℕ, Bool, ◌&&◌, ◌==◌, List, [], ◌∷◌, Option, None, Some, option_map, option_and_then, if◌then◌else◌}
use Rattle.std.specs.Cmp.Lexicographic.{slice_cmp}
use Rattle.std.specs.List.{list_any}
use Rattle.std.specs.Ordering.{nat_cmp, match_ordering}
use Rattle.std.specs.Str.{bytes_eq}
use Rattle.toml.specs.Data.{Members, no_members, member, as_table}
use Rattle.craft_settings.specs.declared.keys.Section.{Section}
use Rattle.craft_settings.specs.declared.keys.Section.TheVariants.{Top, Crafter, Recipe, Base, Actions}
use Rattle.craft_settings.specs.declared.fault.SettingsFault.{SettingsFault}
use Rattle.craft_settings.specs.declared.fault.SettingsFault.TheVariants.{UnknownKey}
use Rattle.craft_settings.specs.Keys.{Row, row_of, places, path}
use Rattle.craft_settings.specs.Document.{section_data}
use Rattle.craft_settings.specs.Fault.{first_some}

abbrev pub section_number : Section → ℕ
section_number Top = 0
section_number Crafter = 1
section_number Recipe = 2
section_number Base = 3
section_number Actions = 4

-- the row is that of the name in the table
abbrev pub is_row : Section → List ℕ → Row → Bool
is_row s name row = (section_number row.section == section_number s) && bytes_eq row.name name

-- the list of the version has the key
unfoldable pub is_known : (two : Bool) → Section → List ℕ → Bool
is_known two s name = list_any (λ place. is_row s name (row_of place)) (places two)

-- the lesser of two keys by bytes
abbrev pub lesser : List ℕ → Option (List ℕ) → List ℕ
lesser k None = k
lesser k (Some l) = match_ordering (slice_cmp nat_cmp k l) k k l

-- the least unknown key by bytes
abbrev pub least_unknown : (List ℕ → Bool) → Members → Option (List ℕ)
least_unknown known no_members = None
least_unknown known (member k d ms) = if known k then least_unknown known ms else Some (lesser k (least_unknown known ms))

-- the path of the least unknown key of a table
unfoldable pub unknown_in : (known : Section → List ℕ → Bool) → Members → Section → Option (List ℕ)
unknown_in known doc s = option_map (path s) (option_and_then (least_unknown (known s)) (option_and_then as_table (section_data doc s)))

-- the top level first, and then the tables in this order
abbrev pub sections : List Section
sections = Top ∷ Crafter ∷ Recipe ∷ Base ∷ Actions ∷ []

-- the path of the unknown key that is told
unfoldable pub unknown_path : (known : Section → List ℕ → Bool) → Members → Option (List ℕ)
unknown_path known doc = first_some (unknown_in known doc) sections

unfoldable pub unknown_fault : (two : Bool) → Members → Option SettingsFault
unknown_fault two doc = option_map UnknownKey (unknown_path (is_known two) doc)
