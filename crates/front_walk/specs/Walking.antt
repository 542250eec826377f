-- What a walk answers.
use Rattle.std.specs.Prelude.{ℕ, List, ◌≡◌, map, length, Contains}
use Rattle.std.specs.List.{range_with_len}
use Rattle.action_table.specs.declared.action.Action.{Action}
use Rattle.craft_state.specs.Craft.{StateFields}
use Rattle.craft_settings.specs.Ranges.{SettingsFields}
use Rattle.prefix_fronts.specs.Prefix.{Prefix, Test, front, completions, IsSoonest}

-- how many lists of actions there are in the front of each length below n
abbrev pub sizes_below : SettingsFields → StateFields → Test → ℕ → List ℕ
sizes_below g s passes n = map (λ k. length (front g s passes n k)) (range_with_len 0 n)

-- these are the actions of the soonest of the completions of n actions
pub record IsSoonestCompletion (g : SettingsFields) (s : StateFields) (target : ℕ)
    (passes : Test) (n : ℕ) (actions : List Action) : Type 0 where
  pub last : Prefix
  pub among : Contains (completions g s target passes n) last
  pub soonest : IsSoonest last (completions g s target passes n)
  pub actions_is : actions ≡ last.actions
  pub long : length actions ≡ n
