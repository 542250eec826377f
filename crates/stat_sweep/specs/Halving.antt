-- What is known of a tried base quality.
use Rattle.std.specs.Prelude.{ℕ, Bool, false, List, Option, Some, None, ◌-◌, ◌*◌, ◌==◌, min, max, IsTrue, ◌↔◌}
use Rattle.std.specs.Int.{div_ceil}
use Rattle.action_table.specs.declared.action.Action.{Action}
use Rattle.craft_settings.specs.Ranges.{SettingsFields}
use Rattle.craft_settings.specs.Rules.{cap_of}
use Rattle.macro_order.specs.declared.scores.Score.{Score}
use Rattle.macro_order.specs.Order.{IsBest, score_of}
use Rattle.stat_sweep.specs.declared.TheConstants.{MOST_BASE}
use Rattle.stat_sweep.specs.declared.halving.Tried.{Tried}
use Rattle.stat_sweep.specs.Bases.{with_base, IsEnough}

-- the score has all the quality that counts
abbrev pub is_full : SettingsFields → Option Score → Bool
is_full g None = false
is_full g (Some score) = score.quality == cap_of g

-- the best macro at a base quality, and whether that is enough
pub record IsTried (g : SettingsFields) (base : ℕ) (tried : Tried) : Type 0 where
  pub best : IsBest (with_base g base) tried.plan
  pub enough : IsTrue tried.is_enough ↔ IsEnough g base

-- the base quality that is to another as all quality that counts is to a quality, each without the initial one; rounded
-- up, and cut at the greatest
abbrev pub scaled_of : SettingsFields → ℕ → ℕ → ℕ
scaled_of g base quality =
    min MOST_BASE (div_ceil (base * (cap_of g - g.initial)) (max 1 (quality - g.initial)))

-- the one that a score at a base quality leads to expect; without a score the other number
abbrev pub expected_by : SettingsFields → ℕ → ℕ → Option Score → ℕ
expected_by g base other None = other
expected_by g base other (Some score) = scaled_of g base score.quality

-- the least base quality that is enough, as the macro that falls short at `low` leads to expect it; without one `middle`
abbrev pub expected_of : SettingsFields → (low middle : ℕ) → Option (List Action) → ℕ
expected_of g low middle None = middle
expected_of g low middle (Some m) = expected_by g low middle (score_of (with_base g (max low 1)) m)
