-- The states of a list of actions from a state.
use Rattle.std.specs.Prelude.{ℕ, ◌≡◌, ◌≤◌, ◌+◌, List, Some, length, take, slice_index_or}
use Rattle.action_table.specs.declared.action.Action.{Action}
use Rattle.craft_state.specs.Craft.{StateFields}
use Rattle.craft_settings.specs.Ranges.{SettingsFields}
use Rattle.step_rules.specs.Run.{run_of}

-- the state after each number of actions, from none on
pub record AreStatesOf (g : SettingsFields) (s : StateFields) (m : List Action) (states : List StateFields) : Type 0 where
  pub as_many : length states ≡ length m + 1
  pub each : (count : ℕ) (d : StateFields) → count ≤ length m → run_of g s (take count m) ≡ Some (slice_index_or states count d)
