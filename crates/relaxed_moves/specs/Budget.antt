-- What means are worth in CP.
use Rattle.std.specs.Prelude.{ℕ, Bool, true, false, ◌≡◌, ◌+◌, ◌-◌, ◌*◌, ◌/◌, min, if◌then◌else◌}
use Rattle.action_table.specs.declared.action.Action.{Action}
use Rattle.action_table.specs.declared.action.Action.TheVariants.{WasteNot, WasteNotII, Groundwork, Manipulation, ImmaculateMend, TrainedPerfection}
use Rattle.action_table.specs.Table.{row_of}
use Rattle.craft_state.specs.declared.Perfection.{Perfection}
use Rattle.craft_state.specs.declared.Perfection.TheVariants.{Spent}
use Rattle.craft_state.specs.Craft.{StateFields}
use Rattle.craft_settings.specs.Ranges.{SettingsFields}
use Rattle.craft_settings.specs.Rules.{is_allowed}
use Rattle.relaxed_moves.specs.declared.kinds.Weights.{Weights}

-- what five points of durability are worth: Manipulation gives eight fives for 96,
-- and Immaculate Mend at most all but one for 112
unfoldable pub rho_of : SettingsFields → ℕ
rho_of g =
    min (if is_allowed g Manipulation then 12 else 14)
    (if is_allowed g ImmaculateMend then 112 / (g.durability / 5 - 1) else 14)

-- what a step of Waste Not is worth
unfoldable pub sigma_of : SettingsFields → ℕ
sigma_of g = if is_allowed g WasteNotII then 12 else if is_allowed g WasteNot then 14 else 28

-- what the last action may overdraw
unfoldable pub slack_of : SettingsFields → ℕ
slack_of g = if is_allowed g Groundwork then 3 * rho_of g else rho_of g

-- the weights of a craft
pub record AreWeights (g : SettingsFields) (weights : Weights) : Type 0 where
  pub rho : weights.rho ≡ rho_of g
  pub sigma : weights.sigma ≡ sigma_of g
  pub slack : weights.slack ≡ slack_of g

abbrev pub is_spent : Perfection → Bool
is_spent Spent = true
is_spent _ = false

-- what the means of a state are worth
unfoldable pub potential_of : SettingsFields → StateFields → ℕ
potential_of g s =
    s.cp
    + rho_of g * (s.durability / 5)
    + rho_of g * s.effects.manipulation
    + sigma_of g * s.effects.waste
    + (if is_spent s.effects.perfection then 0 else 4 * rho_of g)
    + slack_of g

-- the potential of the start
unfoldable pub start_potential_of : SettingsFields → ℕ
start_potential_of g =
    g.cp + rho_of g * (g.durability / 5) + (if is_allowed g TrainedPerfection then 4 * rho_of g else 0) + slack_of g

-- what so many fives of durability are worth, whole or halved by a step of Waste Not
abbrev pub wear_cost : (rho sigma fives : ℕ) → ℕ
wear_cost rho sigma fives = min (rho * fives) (rho * ((fives + 1) / 2) + sigma)

-- what a relaxed move costs
unfoldable pub cost_of : SettingsFields → Action → ℕ
cost_of g action =
    (row_of action g.level).combo_cp + wear_cost (rho_of g) (sigma_of g) ((row_of action g.level).durability / 5)
