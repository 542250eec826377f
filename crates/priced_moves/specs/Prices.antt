-- What means and moves are worth by given prices.
use Rattle.std.specs.Prelude.{ℕ, ◌≡◌, ◌≤◌, ◌+◌, ◌-◌, ◌*◌, ◌/◌, true, min}
use Rattle.action_table.specs.declared.action.Action.{Action}
use Rattle.action_table.specs.declared.action.Action.TheVariants.{MastersMend, WasteNot, WasteNotII, Manipulation, ImmaculateMend}
use Rattle.action_table.specs.Table.{row_of}
use Rattle.craft_state.specs.declared.Combo.{Combo}
use Rattle.craft_state.specs.declared.Perfection.{Perfection}
use Rattle.craft_state.specs.declared.Perfection.TheVariants.{Ready, On, Spent}
use Rattle.craft_state.specs.Craft.{StateFields}
use Rattle.craft_settings.specs.Ranges.{SettingsFields}
use Rattle.craft_settings.specs.Rules.{is_allowed}
use Rattle.relaxed_moves.specs.Budget.{wear_cost, rho_of, sigma_of}
use Rattle.priced_moves.specs.declared.kinds.Prices.{Prices}
use Rattle.priced_moves.specs.Moves.{is_listed, cp_of}

-- what a move costs after a combo, before it is cut to coins: its CP, its durability, whole or halved by a step of
-- Waste Not, and its step
abbrev pub raw_price : Prices → SettingsFields → Combo → Action → ℕ
raw_price p g combo action =
    p.cp * cp_of g combo action + wear_cost p.five p.waste ((row_of action g.level).durability / 5) + p.step

-- what a move costs after a combo
unfoldable pub price_of : Prices → SettingsFields → Combo → Action → ℕ
price_of p g combo action = raw_price p g combo action / p.coin

-- no mending gives more durability than its CP and its step are worth
pub record IsFairFive (g : SettingsFields) (cp step five : ℕ) : Type 0 where
  pub masters_mend : is_allowed g MastersMend ≡ true → 6 * five ≤ 88 * cp + step
  pub manipulation : is_allowed g Manipulation ≡ true → 8 * five ≤ 96 * cp + step
  pub immaculate_mend : is_allowed g ImmaculateMend ≡ true → five * (g.durability / 5 - 1) ≤ 112 * cp + step

-- neither Waste Not gives more steps of it than its CP and its step are worth
pub record IsFairWaste (g : SettingsFields) (cp step waste : ℕ) : Type 0 where
  pub waste_not : is_allowed g WasteNot ≡ true → 4 * waste ≤ 56 * cp + step
  pub waste_not_ii : is_allowed g WasteNotII ≡ true → 8 * waste ≤ 98 * cp + step

-- the prices are fair: no rest is worth more than it costs, and each move has a price
pub record AreFair (g : SettingsFields) (p : Prices) : Type 0 where
  pub coin : 1 ≤ p.coin
  pub five : IsFairFive g p.cp p.step p.five
  pub waste : IsFairWaste g p.cp p.step p.waste
  pub moves : (combo : Combo) (action : Action) → is_listed g action ≡ true → 1 ≤ price_of p g combo action

-- the number is fair, and the greatest fair one up to a limit
pub record IsGreatestFair (limit : ℕ) (IsFair : ℕ → Type 0) (n : ℕ) : Type 0 where
  pub within : n ≤ limit
  pub fair : IsFair n
  pub no_more : (m : ℕ) → m ≤ limit → IsFair m → m ≤ n

-- what Trained Perfection may still spare: the durability of one action, less the step that it takes to use it
abbrev pub spared : Prices → Perfection → ℕ
spared p Ready = 4 * p.five - p.step
spared p On = 4 * p.five
spared p Spent = 0

-- what the means of a state are worth with so many steps left, before it is cut to coins: no more is counted of
-- Manipulation and Waste Not than these steps can use, and the last action may overdraw five points of durability
abbrev pub raw_worth : Prices → StateFields → ℕ → ℕ
raw_worth p s steps =
    p.cp * s.cp
    + p.five * (s.durability / 5 + min s.effects.manipulation (steps - 1))
    + p.waste * min s.effects.waste steps
    + spared p s.effects.perfection
    + p.five
    + p.step * steps

-- what the means of a state are worth with so many steps left
unfoldable pub worth_of : Prices → StateFields → ℕ → ℕ
worth_of p s steps = raw_worth p s steps / p.coin

-- the prices of a bound by the number of steps alone
abbrev pub steps_alone : Prices
steps_alone = record { cp = 0; five = 0; waste = 0; step = 1; coin = 1 }

-- the prices of a bound by the budget alone: steps are free, durability and Waste Not have their weights in CP
abbrev pub budget_alone : SettingsFields → Prices
budget_alone g = record { cp = 1; five = rho_of g; waste = sigma_of g; step = 0; coin = 1 }

-- prices small enough to reckon with
pub record AreSmall (p : Prices) : Type 0 where
  pub cp : p.cp ≤ 1000
  pub five : p.five ≤ 25000
  pub waste : p.waste ≤ 40000
  pub step : p.step ≤ 10000
  pub coin : 1 ≤ p.coin
