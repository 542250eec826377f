-- Which states may still lead to a quality, as the bounds tell it.
use Rattle.std.specs.Prelude.{ℕ, List, ◌&&◌, ◌||◌}
use Rattle.craft_settings.specs.Ranges.{SettingsFields}
use Rattle.step_rules.specs.Legality.{start_of}
use Rattle.relaxed_moves.specs.Optimum.{limit_of, within_of, is_enough}
use Rattle.prefix_fronts.specs.Prefix.{Test}
use Rattle.front_walk.specs.Walking.{sizes_below}

-- with so many actions left, the state may still lead to the target: before the first step always, and later where
-- neither its limit nor its limit within these actions is below the target
unfoldable pub bounds_reach : SettingsFields → ℕ → ℕ → Test
bounds_reach g grain target left s =
    s.effects.first || (is_enough target (within_of g grain s left) && is_enough target (limit_of g grain s))

-- how many survivors there are of each length below n
abbrev pub front_sizes : SettingsFields → (grain target n : ℕ) → List ℕ
front_sizes g grain target n = sizes_below g (start_of g) (bounds_reach g grain target) n
