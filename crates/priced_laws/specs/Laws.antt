-- The steps that the laws speak of, and the laws of the test.
use Rattle.std.specs.Prelude.{ℕ, List, Some, true, false, ◌≡◌, ◌&&◌}
use Rattle.action_table.specs.declared.action.Action.{Action}
use Rattle.craft_state.specs.Craft.{StateFields}
use Rattle.craft_settings.specs.Ranges.{SettingsFields}
use Rattle.step_rules.specs.Legality.{is_over, is_complete, IsWithin}
use Rattle.step_rules.specs.Run.{run_of}
use Rattle.admissible.specs.Laws.{GoesOn, Finishes}
use Rattle.prefix_fronts.specs.Prefix.{Test, AreLimits}
use Rattle.priced_moves.specs.declared.kinds.Prices.{Prices}
use Rattle.priced_moves.specs.declared.kinds.Units.{Units}
use Rattle.priced_moves.specs.Moves.{AreUnits}
use Rattle.priced_moves.specs.Prices.{AreFair}
use Rattle.priced_moves.specs.Optimum.{reaches}

-- a legal step after the first step that leaves the craft going
pub record GoesLater (g : SettingsFields) (s : StateFields) (action : Action) : Type 0 where
  pub step : GoesOn g s action
  pub first : s.effects.first ≡ false

-- a legal step after the first step that completes the craft
pub record FinishesLater (g : SettingsFields) (s : StateFields) (action : Action) : Type 0 where
  pub step : Finishes g s action
  pub first : s.effects.first ≡ false

-- the actions lead from a state within the settings to a live state
pub record StaysLive (g : SettingsFields) (s : StateFields) (actions : List Action) (t : StateFields) : Type 0 where
  pub within : IsWithin g s
  pub ran : run_of g s actions ≡ Some t
  pub live : is_over g t ≡ false

-- the actions complete the craft from a live state within the settings
pub record IsDone (g : SettingsFields) (s : StateFields) (actions : List Action) (t : StateFields) : Type 0 where
  pub within : IsWithin g s
  pub live : is_over g s ≡ false
  pub ran : run_of g s actions ≡ Some t
  pub complete : is_complete g t ≡ true

-- by fair prices the test keeps what the fronts ask of a test
abbrev pub fair_prices_limit : Type 0
fair_prices_limit = (p : Prices) (g : SettingsFields) (units : Units) (target : ℕ) →
    AreFair g p → AreUnits units → AreLimits g target (reaches p g units target)

-- and so do two such tests together
abbrev pub tests_together : Type 0
tests_together = (g : SettingsFields) (target : ℕ) (one two : Test) →
    AreLimits g target one → AreLimits g target two → AreLimits g target (λ j s. one j s && two j s)
