-- What a sweep over base qualities answers.
use Rattle.std.specs.Prelude.{ℕ, Bool, true, false, List, Option, Some, None, ◌≡◌, ◌<◌, ◌≤◌, ◌-◌}
use Rattle.action_table.specs.declared.action.Action.{Action}
use Rattle.craft_settings.specs.Ranges.{SettingsFields}
use Rattle.macro_order.specs.Order.{IsBest, NothingCompletes}
use Rattle.stat_sweep.specs.declared.TheConstants.{MOST_BASE}
use Rattle.stat_sweep.specs.declared.swept.Swept.{Swept}
use Rattle.stat_sweep.specs.declared.swept.Swept.TheVariants.{Nothing, Short, Least}
use Rattle.stat_sweep.specs.Bases.{with_base, IsEnough}

-- the least base quality that is enough, from 1 to the greatest
pub record IsLeastEnough (g : SettingsFields) (base : ℕ) : Type 0 where
  pub low : 1 ≤ base
  pub high : base ≤ MOST_BASE
  pub enough : IsEnough g base
  pub least : (less : ℕ) → 1 ≤ less → less < base → IsEnough g less → ⊥

-- the best macro at one less than a base quality above 1, and none at 1
abbrev pub IsBestBelow : SettingsFields → ℕ → Option (List Action) → Type 0
IsBestBelow g base None = base ≡ 1
IsBestBelow g base (Some m) = (1 < base) × IsBest (with_base g (base - 1)) m

-- some macro completes the craft, and the greatest base quality isn't enough
abbrev pub FallsShort : SettingsFields → Type 0
FallsShort g = (NothingCompletes g → ⊥) × (IsEnough g MOST_BASE → ⊥)

-- the answer is right
abbrev pub IsSwept : SettingsFields → Swept → Type 0
IsSwept g Nothing = NothingCompletes g
IsSwept g (Short at) = FallsShort g × IsBest (with_base g MOST_BASE) at
IsSwept g (Least base at below) = IsLeastEnough g base × IsBest (with_base g base) at × IsBestBelow g base below

abbrev pub is_nothing : Swept → Bool
is_nothing Nothing = true
is_nothing _ = false

abbrev pub is_short : Swept → Bool
is_short (Short _) = true
is_short _ = false

abbrev pub is_least : Swept → Bool
is_least (Least _ _ _) = true
is_least _ = false
