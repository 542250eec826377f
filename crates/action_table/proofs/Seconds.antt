-- An action takes the same seconds at every level.
use Rattle.std.proofs.Common.{◌≡◌, ◌≤◌, ℕ, refl, arith}
use Rattle.action_table.specs.Table.{row_of, action_seconds}
use Rattle.action_table.specs.declared.action.Action.{Action}
use Rattle.action_table.specs.declared.action.Action.TheVariants.{BasicSynthesis}

pub seconds_at : (action : Action) (level : ℕ) → (row_of action level).seconds ≡ action_seconds action
unfolding action_seconds
seconds_at BasicSynthesis level = refl
seconds_at _ level = refl

pub seconds_small : (action : Action) → action_seconds action ≤ 3
unfolding action_seconds
seconds_small BasicSynthesis = omega arith
seconds_small _ = omega arith
