-- What a settings file has at its keys.
use Rattle.std.specs.Prelude.{ℕ, pos, Bool, false, List, codes, Option, None, Some, is_none, option_and_then, if◌then◌else◌}
use Rattle.std.specs.Option.{option_map_or, option_eq}
use Rattle.std.specs.Ordering.{int_eq}
use Rattle.std.specs.Str.{is_utf8}
use Rattle.toml.specs.Data.{Data, table, Members, get, get_member, as_table, as_integer}
use Rattle.toml.specs.Parse.{parse_document}
use Rattle.craft_settings.specs.declared.keys.Section.{Section}
use Rattle.craft_settings.specs.declared.keys.Section.TheVariants.{Top}
use Rattle.craft_settings.specs.Keys.{Row, row_of, section_name}

-- the document that the bytes are
unfoldable pub document : List ℕ → Option Members
document bytes = if is_utf8 bytes then parse_document bytes else None

-- what stands at the name of a table
unfoldable pub section_data : Members → Section → Option Data
section_data doc Top = Some (table doc)
section_data doc s = get_member (section_name s) doc

-- the name of the table holds something else than a table
unfoldable pub is_shut : Members → Section → Bool
is_shut doc s = option_map_or (λ d. is_none (as_table d)) (section_data doc s) false

-- the value of a key
unfoldable pub value_of : Members → Row → Option Data
value_of doc row = option_and_then (get row.name) (section_data doc row.section)

abbrev pub value_at : Members → ℕ → Option Data
value_at doc place = value_of doc (row_of place)

-- without a key `base` the base values come from the stats
unfoldable pub is_stats : Members → Bool
is_stats doc = is_none (get_member (codes "base") doc)

-- the version is the second exactly where the value of `version` is the integer 2
unfoldable pub is_two : Members → Bool
is_two doc = option_eq int_eq (option_and_then as_integer (get_member (codes "version") doc)) (Some (pos 2))
