-- The order in which states are looked at: by progress, and then by the measure downwards.
use Rattle.std.specs.Prelude.{ℕ, ◌+◌, ◌-◌, ◌*◌, ◌/◌}
use Rattle.craft_state.specs.Craft.{StateFields}
use Rattle.craft_settings.specs.Ranges.{SettingsFields}
use Rattle.step_rules.specs.Measure.{measure}
use Rattle.quality_sweep.specs.declared.places.TheConstants.{DEPTH}

-- the window of progress, and in it the place by a quarter of the measure, the greatest first
abbrev pub place_of : ℕ → StateFields → ℕ
place_of width s = s.progress / width * DEPTH + (DEPTH - 1 - measure s / 4)

-- how many places the states of a craft have
abbrev pub places_of : ℕ → SettingsFields → ℕ
places_of width g = (g.progress / width + 1) * DEPTH
