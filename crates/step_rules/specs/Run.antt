-- The state after a list of actions.
use Rattle.std.specs.Prelude.{ℕ, List, [], ◌∷◌, Option, Some, None, ◌≡◌, ◌≤◌, length, take, slice_get, if◌then◌else◌}
use Rattle.action_table.specs.declared.action.Action.{Action}
use Rattle.craft_state.specs.Craft.{StateFields}
use Rattle.craft_settings.specs.Ranges.{SettingsFields}
use Rattle.step_rules.specs.declared.legality.Illegal.{Illegal}
use Rattle.step_rules.specs.Legality.{start_of, is_legal, reason_of}
use Rattle.step_rules.specs.Step.{step_of}

-- the state after the actions, where each is legal in turn
abbrev pub run_of : SettingsFields → StateFields → List Action → Option StateFields
run_of g s [] = Some s
run_of g s (action ∷ rest) = if is_legal g s action then run_of g (step_of g s action) rest else None

-- the actions before a place run, and the action at the place isn't legal
pub record StopsAt (g : SettingsFields) (from : StateFields) (actions : List Action) (place : ℕ) (why : Illegal)
    (state : StateFields) : Type 0 where
  pub before : run_of g from (take place actions) ≡ Some state
  pub action : Action
  pub at : slice_get actions place ≡ Some action
  pub reason : reason_of g state action ≡ Some why

-- no legal macro has more steps than this
abbrev pub AreAtMost : SettingsFields → ℕ → Type 0
AreAtMost g most =
    (actions : List Action) (last : StateFields) → run_of g (start_of g) actions ≡ Some last → length actions ≤ most
