-- The steps that the laws speak of.
use Rattle.std.specs.Prelude.{true, false, ◌≡◌}
use Rattle.action_table.specs.declared.action.Action.{Action}
use Rattle.craft_state.specs.Craft.{StateFields}
use Rattle.craft_settings.specs.Ranges.{SettingsFields}
use Rattle.step_rules.specs.Legality.{is_legal, is_over, is_complete, IsWithin}
use Rattle.step_rules.specs.Step.{step_of}

-- a legal step that leaves the craft going
pub record GoesOn (g : SettingsFields) (s : StateFields) (action : Action) : Type 0 where
  pub within : IsWithin g s
  pub legal : is_legal g s action ≡ true
  pub live : is_over g (step_of g s action) ≡ false

-- a legal step that completes the craft
pub record Finishes (g : SettingsFields) (s : StateFields) (action : Action) : Type 0 where
  pub within : IsWithin g s
  pub legal : is_legal g s action ≡ true
  pub done : is_complete g (step_of g s action) ≡ true
