-- The faults in the steps in which the reader looks for them, and what it knows between them.
use Rattle.std.specs.Prelude.{◌≡◌, ◌≤◌, ◌%◌, ℕ, pos, Bool, List, max, Option, None, Some, option_map, if◌then◌else◌}
use Rattle.std.specs.Int.{bit_at}
use Rattle.std.specs.Option.{option_or}
use Rattle.toml.specs.Data.{Members}
use Rattle.craft_settings.specs.declared.checks.Check.{Check}
use Rattle.craft_settings.specs.declared.checks.Check.TheVariants.{Presence, Sort, Range}
use Rattle.craft_settings.specs.declared.fault.SettingsFault.{SettingsFault}
use Rattle.craft_settings.specs.declared.fault.SettingsFault.TheVariants.{OutOfRange}
use Rattle.craft_settings.specs.Keys.{row_of, places, level_key, cp_key, craftsmanship_key, control_key, durability_key, progress_key, quality_key, initial_quality_key, progress_div_key, quality_div_key, progress_mod_key, quality_mod_key, target_key, base_progress_key, base_quality_key}
use Rattle.craft_settings.specs.Document.{is_stats}
use Rattle.craft_settings.specs.Fault.{first_some, stray, integer_of, missing_at, misfit_at}
use Rattle.craft_settings.specs.Names.{are_against, bit, action_fault}
use Rattle.craft_settings.specs.Reading.{number_at, stats_progress, stats_quality, two_bases}
use Rattle.craft_settings.specs.Unknown.{unknown_fault}

-- a number of the file isn't in its range
unfoldable pub outside_at : Members → ℕ → Option SettingsFault
outside_at doc place = option_map (OutOfRange place) (stray (row_of place).kind (integer_of doc (row_of place)))

-- a computed base value isn't in the range of its key
unfoldable pub base_fault : ℕ → ℕ → Option SettingsFault
base_fault place n = option_map (OutOfRange place) (stray (row_of place).kind (Some (pos n)))

unfoldable pub computed_fault : Members → Option SettingsFault
computed_fault doc =
    if is_stats doc then option_or (base_fault base_progress_key (stats_progress doc)) (base_fault base_quality_key (stats_quality doc))
    else None

abbrev pub fault_at : Check → Members → ℕ → Option SettingsFault
fault_at Presence = missing_at
fault_at Sort = misfit_at
fault_at Range = outside_at

unfoldable pub given_fault : (two : Bool) → Members → Option SettingsFault
given_fault two doc =
    option_or (first_some (fault_at Presence doc) (places two))
    (option_or (first_some (fault_at Sort doc) (places two))
    (first_some (fault_at Range doc) (places two)))

unfoldable pub step_fault : (two : Bool) → Members → Option SettingsFault
step_fault two doc =
    option_or (unknown_fault two doc)
    (option_or (given_fault two doc)
    (option_or (computed_fault doc)
    (option_or (two_bases doc)
    (action_fault two doc))))

-- each number is in its range, and so is the number that stands for it where it is absent
pub record IsInRange (doc : Members) : Type 0 where
  pub level : (1 ≤ number_at doc level_key 1) × (number_at doc level_key 1 ≤ 100)
  pub cp : number_at doc cp_key 0 ≤ 1000
  pub craftsmanship : number_at doc craftsmanship_key 0 ≤ 10000
  pub control : number_at doc control_key 0 ≤ 10000
  pub durability : (10 ≤ number_at doc durability_key 10) × (number_at doc durability_key 10 ≤ 100)
      × (number_at doc durability_key 10 % 5 ≡ 0)
  pub progress : (1 ≤ number_at doc progress_key 1) × (number_at doc progress_key 1 ≤ 100000)
  pub quality : number_at doc quality_key 0 ≤ 100000
  pub initial : number_at doc initial_quality_key 0 ≤ 100000
  pub progress_div : (1 ≤ number_at doc progress_div_key 1) × (number_at doc progress_div_key 1 ≤ 1000)
  pub quality_div : (1 ≤ number_at doc quality_div_key 1) × (number_at doc quality_div_key 1 ≤ 1000)
  pub progress_mod : number_at doc progress_mod_key 100 ≤ 100
  pub quality_mod : number_at doc quality_mod_key 100 ≤ 100
  pub target : number_at doc target_key (number_at doc quality_key 0) ≤ 100000
  pub base_progress : (1 ≤ number_at doc base_progress_key 1) × (number_at doc base_progress_key 1 ≤ 5000)
  pub base_quality : (1 ≤ number_at doc base_quality_key 1) × (number_at doc base_quality_key 1 ≤ 5000)

-- the mask is the other one with the bits of the names
abbrev pub Adds : (two : Bool) → List (List ℕ) → ℕ → ℕ → Type 0
Adds two names start mask = (n : ℕ) → bit_at mask n ≡ max (bit_at start n) (bit (are_against two names n))
