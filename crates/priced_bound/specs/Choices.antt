-- The prices and the units that are chosen for a craft.
use Rattle.std.specs.Prelude.{ℕ, Bool, true, ◌≡◌, ◌≤◌, ◌-◌, ◌+◌, ◌*◌, ◌/◌, ◌%◌, ◌==◌, ◌||◌, not, nat_lt, max, if◌then◌else◌}
use Rattle.std.specs.List.{list_all}
use Rattle.action_table.specs.declared.action.Action.{Action}
use Rattle.action_table.specs.declared.action.Action.TheVariants.{MastersMend, Manipulation, ImmaculateMend}
use Rattle.action_table.specs.Table.{row_of, all_actions}
use Rattle.craft_settings.specs.Ranges.{SettingsFields}
use Rattle.craft_settings.specs.Rules.{is_allowed, cap_of}
use Rattle.relaxed_moves.specs.Moves.{is_listed}
use Rattle.priced_moves.specs.declared.kinds.Prices.{Prices}
use Rattle.priced_moves.specs.declared.kinds.Units.{Units}
use Rattle.priced_moves.specs.Moves.{ceiling}
use Rattle.priced_moves.specs.Prices.{IsFairFive, IsFairWaste, IsGreatestFair}
use Rattle.priced_bound.specs.declared.choices.Pricing.{Pricing}
use Rattle.priced_bound.specs.declared.choices.Pricing.TheVariants.{Durability, Steps, CoarseSteps, FreeSteps}
use Rattle.priced_bound.specs.declared.choices.TheConstants.{STEP_POINTS, FOUR_POINTS, EIGHT_POINTS, HALVES, MOST_EFFICIENCY, FINE_SHARE, FEW_POINTS, MOST_WORTH}

-- prices with these of a point of CP, of each step and of a coin, by which durability and Waste Not are worth as much as is fair
pub record ArePricesBy (g : SettingsFields) (point each parts : ℕ) (p : Prices) : Type 0 where
  pub cp : p.cp ≡ point
  pub step : p.step ≡ each
  pub coin : p.coin ≡ parts
  pub five : IsGreatestFair (15 * point + each) (IsFairFive g point each) p.five
  pub waste : IsGreatestFair (30 * point + each) (IsFairWaste g point each) p.waste

-- the most fives of durability that one allowed rest gives, 1 where there is none
abbrev pub most_fives : SettingsFields → ℕ
most_fives g =
    max (if is_allowed g MastersMend then 6 else 1)
    (max (if is_allowed g Manipulation then 8 else 1) (if is_allowed g ImmaculateMend then g.durability / 5 - 1 else 1))

-- the prices of a craft
abbrev pub ArePricesOf : SettingsFields → Pricing → Prices → Type 0
ArePricesOf g Durability p = ArePricesBy g 0 (most_fives g) 1 p
ArePricesOf g Steps p = ArePricesBy g 1 STEP_POINTS FOUR_POINTS p
ArePricesOf g CoarseSteps p = ArePricesBy g 1 STEP_POINTS EIGHT_POINTS p
ArePricesOf g FreeSteps p = ArePricesBy g HALVES 0 HALVES p

-- the action is no move, or the number divides its progress efficiency
abbrev pub divides : SettingsFields → ℕ → Action → Bool
divides g n action = not (is_listed g action) || ((row_of action g.level).progress % n == 0)

abbrev pub divides_each : SettingsFields → ℕ → Bool
divides_each g n = list_all (divides g n) all_actions

-- the greatest number that divides the progress efficiencies of all moves
pub record IsGreatestDivisor (g : SettingsFields) (n : ℕ) : Type 0 where
  pub low : 1 ≤ n
  pub high : n ≤ MOST_EFFICIENCY
  pub divides : divides_each g n ≡ true
  pub no_more : (m : ℕ) → 1 ≤ m → m ≤ MOST_EFFICIENCY → divides_each g m ≡ true → m ≤ n

-- progress is counted by points: there is little of it, or a gain can be less than a point
abbrev pub is_by_points : SettingsFields → ℕ → Bool
is_by_points g divisor = nat_lt g.progress FEW_POINTS || nat_lt (g.base_progress * divisor) FINE_SHARE

-- the finest unit of progress, of which each gain is a whole number but for its rounding down: so many points, divided by
-- the share
abbrev pub fine_progress : SettingsFields → ℕ → ℕ
fine_progress g divisor = if is_by_points g divisor then 1 else g.base_progress * divisor

abbrev pub fine_share : SettingsFields → ℕ → ℕ
fine_share g divisor = if is_by_points g divisor then 1 else FINE_SHARE

-- units of which the craft's progress takes no more than most, the least number of the finest each; and the least whole
-- points of quality by which what counts fits a word
pub record AreUnitsOf (g : SettingsFields) (most : ℕ) (units : Units) : Type 0 where
  pub divisor : ℕ
  pub greatest : IsGreatestDivisor g divisor
  pub share : units.share ≡ fine_share g divisor
  pub progress : units.progress
      ≡ fine_progress g divisor * ceiling (g.progress * fine_share g divisor) (fine_progress g divisor * most)
  pub quality : units.quality ≡ max 1 (ceiling (cap_of g) MOST_WORTH)
