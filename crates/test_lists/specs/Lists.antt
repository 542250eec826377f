-- What is said of a list of actions.
use Rattle.std.specs.Prelude.{ℕ, Some, ◌≡◌, length}
use Rattle.craft_state.specs.Craft.{StateFields}
use Rattle.craft_settings.specs.Ranges.{SettingsFields}
use Rattle.step_rules.specs.Legality.{IsWithin}
use Rattle.step_rules.specs.Run.{run_of}
use Rattle.test_lists.specs.declared.Listed.{Listed}

-- so many actions that are legal in turn, and the state of the craft that they lead to
pub record IsListed (g : SettingsFields) (from : StateFields) (n : ℕ) (l : Listed) : Type 0 where
  pub long : length l.actions.items ≡ n
  pub ran : run_of g from l.actions.items ≡ Some l.state
  pub within : IsWithin g l.state
