-- Macros that complete a craft, and the quality that they reach.
use Rattle.std.specs.Prelude.{ℕ, List, Some, true, ◌≡◌, min}
use Rattle.action_table.specs.declared.action.Action.{Action}
use Rattle.craft_state.specs.Craft.{StateFields}
use Rattle.craft_settings.specs.Ranges.{SettingsFields}
use Rattle.craft_settings.specs.Rules.{cap_of}
use Rattle.step_rules.specs.Legality.{start_of, is_complete}
use Rattle.step_rules.specs.Run.{run_of}

-- the quality that counts
abbrev pub counted : SettingsFields → StateFields → ℕ
counted g s = min (cap_of g) s.quality

-- each action is legal in turn, and the last state is complete
pub record Completes (g : SettingsFields) (from : StateFields) (actions : List Action) : Type 0 where
  pub last : StateFields
  pub ran : run_of g from actions ≡ Some last
  pub complete : is_complete g last ≡ true

-- some complete legal macro has this quality
pub record IsReached (g : SettingsFields) (quality : ℕ) : Type 0 where
  pub actions : List Action
  pub last : StateFields
  pub ran : run_of g (start_of g) actions ≡ Some last
  pub complete : is_complete g last ≡ true
  pub same : counted g last ≡ quality
