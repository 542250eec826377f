-- What a settings file gives, and its first fault.
use Rattle.std.specs.Prelude.{ℕ, pos, ℤ, Bool, not, ◌&&◌, ◌==◌, nat_lt, List, length, Option, None, Some, is_some, option_map, if◌then◌else◌}
use Rattle.std.specs.List.{list_any}
use Rattle.std.specs.Option.{option_or}
use Rattle.toml.specs.Data.{Members}
use Rattle.craft_numbers.specs.Gains.{base_value_of}
use Rattle.craft_settings.specs.declared.fault.SettingsFault.{SettingsFault}
use Rattle.craft_settings.specs.declared.fault.SettingsFault.TheVariants.{TooLong, NotToml, OutOfRange, TwoBases}
use Rattle.craft_settings.specs.declared.reader.TheConstants.{MAX_LENGTH}
use Rattle.craft_settings.specs.Keys.{Row, row_of, places, stats_places, craftsmanship_key, control_key, progress_div_key, quality_div_key, progress_mod_key, quality_mod_key, penalty_key, base_progress_key, base_quality_key}
use Rattle.craft_settings.specs.Document.{document, value_at, is_stats, is_two}
use Rattle.craft_settings.specs.Fault.{first_some, when, stray, integer_of, missing_at, misfit_at}
use Rattle.craft_settings.specs.Names.{flag_at, action_fault}
use Rattle.craft_settings.specs.Unknown.{unknown_fault}

-- a number that is there, or else the other number
abbrev pub natural : (other : ℕ) → Option ℤ → ℕ
natural other (Some (pos n)) = n
natural other _ = other

-- The number of a key, or else the other one: the default of a key that no form needs. A key that the form needs isn't
-- absent where there is no fault; its other number only stands in its range.
unfoldable pub number_from : Members → Row → (other : ℕ) → ℕ
number_from doc row other = natural other (integer_of doc row)

abbrev pub number_at : Members → ℕ → (other : ℕ) → ℕ
number_at doc place other = number_from doc (row_of place) other

-- the percentage of a base value: that of its key under a penalty, and else 100
abbrev pub modifier : Members → ℕ → ℕ
modifier doc place = if flag_at doc penalty_key then number_at doc place 100 else 100

-- the base values that the stats give
unfoldable pub stats_progress : Members → ℕ
stats_progress doc = base_value_of (number_at doc craftsmanship_key 0) (number_at doc progress_div_key 1) 2 (modifier doc progress_mod_key)

unfoldable pub stats_quality : Members → ℕ
stats_quality doc = base_value_of (number_at doc control_key 0) (number_at doc quality_div_key 1) 35 (modifier doc quality_mod_key)

unfoldable pub base_progress : Members → ℕ
base_progress doc = if is_stats doc then stats_progress doc else number_at doc base_progress_key 1

unfoldable pub base_quality : Members → ℕ
base_quality doc = if is_stats doc then stats_quality doc else number_at doc base_quality_key 1

-- in the stats form the computed base values stand at the keys of the base values
unfoldable pub computed_at : Members → (is_progress is_quality : Bool) → Option ℤ
computed_at doc is_progress is_quality =
    if is_stats doc && is_progress then Some (pos (stats_progress doc))
    else (if is_stats doc && is_quality then Some (pos (stats_quality doc)) else None)

-- the number at a key, or the computed one that stands there
abbrev pub number_here : Members → ℕ → Option ℤ
number_here doc place = option_or (integer_of doc (row_of place)) (computed_at doc (place == base_progress_key) (place == base_quality_key))

-- a number, of the file or computed, isn't in its range
unfoldable pub range_at : Members → ℕ → Option SettingsFault
range_at doc place = option_map (OutOfRange place) (stray (row_of place).kind (number_here doc place))

-- absent keys first, then values of the wrong kind, then numbers out of range
unfoldable pub value_fault : (two : Bool) → Members → Option SettingsFault
value_fault two doc =
    option_or (first_some (missing_at doc) (places two))
    (option_or (first_some (misfit_at doc) (places two))
    (first_some (range_at doc) (places two)))

-- the key `base` is there, and so is a key of the stats
unfoldable pub has_two_bases : Members → Bool
has_two_bases doc = not (is_stats doc) && list_any (λ place. is_some (value_at doc place)) stats_places

abbrev pub two_bases : Members → Option SettingsFault
two_bases doc = when (has_two_bases doc) TwoBases

-- the first fault of a document by the list of a version, in the order of the faults
unfoldable pub fault_by : (two : Bool) → Members → Option SettingsFault
fault_by two doc =
    option_or (unknown_fault two doc)
    (option_or (value_fault two doc)
    (option_or (two_bases doc) (action_fault two doc)))

-- the first fault of a document
abbrev pub first_fault : Members → Option SettingsFault
first_fault doc = fault_by (is_two doc) doc

-- the most bytes that a file may have
abbrev pub max_length : ℕ
max_length = MAX_LENGTH

-- the fault of a file, where `two` says which documents are of the second version

abbrev pub document_fault_by : (two : Members → Bool) → Option Members → Option SettingsFault
document_fault_by two None = Some NotToml
document_fault_by two (Some doc) = fault_by (two doc) doc

unfoldable pub file_fault_by : (two : Members → Bool) → List ℕ → Option SettingsFault
file_fault_by two bytes = if nat_lt max_length (length bytes) then Some TooLong else document_fault_by two (document bytes)

-- the fault of a file
abbrev pub file_fault : List ℕ → Option SettingsFault
file_fault = file_fault_by is_two
