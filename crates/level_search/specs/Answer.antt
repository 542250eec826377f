-- What is said of the macro that a search answers.
use Rattle.std.specs.Prelude.{ℕ, List, Some, ◌≡◌, ◌≤◌, ◌<◌, ◌-◌, length, take}
use Rattle.action_table.specs.declared.action.Action.{Action}
use Rattle.craft_state.specs.Craft.{StateFields}
use Rattle.craft_settings.specs.Ranges.{SettingsFields}
use Rattle.step_rules.specs.Legality.{start_of}
use Rattle.step_rules.specs.Run.{run_of}
use Rattle.step_rules.specs.Macro.{Completes, counted}
use Rattle.relaxed_moves.specs.Optimum.{option_le, within_of}
use Rattle.macro_order.specs.declared.scores.Score.{Score}
use Rattle.macro_order.specs.Order.{score_of}
use Rattle.prefix_fronts.specs.Prefix.{front, IsListOf}
use Rattle.level_search.specs.Reaching.{bounds_reach}

-- the macro completes the craft with this quality
abbrev pub HasQuality : SettingsFields → List Action → ℕ → Type 0
HasQuality g m quality = (s : Score) × (score_of g m ≡ Some s) × (s.quality ≡ quality)

-- each proper prefix of the macro is among the survivors of its length
abbrev pub Survives : SettingsFields → (grain target : ℕ) → List Action → Type 0
Survives g grain target m =
    (k : ℕ) → k < length m → IsListOf (take k m) (front g (start_of g) (bounds_reach g grain target) (length m) k)

-- on the way of a complete legal macro, after each action but the last, the limit within the actions that are left
-- is at least the macro's quality
abbrev pub AreWithinLimits : SettingsFields → (grain : ℕ) → Type 0
AreWithinLimits g grain =
    (m : List Action) (k : ℕ) (s : StateFields) → (whole : Completes g (start_of g) m) → 1 ≤ k → k < length m
    → run_of g (start_of g) (take k m) ≡ Some s → option_le (Some (counted g whole.last)) (within_of g grain s (length m - k))
