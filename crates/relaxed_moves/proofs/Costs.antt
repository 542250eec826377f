-- The ranges of the weights and of the costs.
use Rattle.std.proofs.Common.{ℕ, Bool, true, false, ◌≡◌, ◌≤◌, ◌<◌, ◌+◌, ◌-◌, ◌*◌, ◌/◌, arith, if◌then◌else◌, ap, ◌∙◌}
use Rattle.std.proofs.lemmas.Nat.{le-div, mul-le, div_below}
use Rattle.std.proofs.Math.Nat.{mul-le-mul_left, mul-div_cancel}
use Rattle.action_table.specs.declared.action.Action.{Action}
use Rattle.action_table.specs.declared.action.Action.TheVariants.{BasicSynthesis, Groundwork, TrainedPerfection}
use Rattle.craft_numbers.specs.Gains.{progress_gain_of}
use Rattle.craft_settings.specs.Ranges.{SettingsFields, AreSettings}
use Rattle.craft_settings.specs.Rules.{is_allowed}
use Rattle.relaxed_moves.specs.Budget.{rho_of, sigma_of, slack_of, cost_of, start_potential_of}
use Rattle.relaxed_moves.specs.Moves.{RelaxedFields, is_listed, is_move_of, unit_of}
use Rattle.relaxed_moves.specs.Optimum.{ArePriced, one}
use Rattle.relaxed_moves.proofs.Products.{rho_times, sigma_times}

pub rho_low : (g : SettingsFields) → AreSettings g → 5 ≤ rho_of g
unfolding rho_of
rho_low g settings = grind arith

pub rho_high : (g : SettingsFields) → rho_of g ≤ 14
unfolding rho_of
rho_high g = grind arith

pub sigma_low : (g : SettingsFields) → 12 ≤ sigma_of g
unfolding sigma_of
sigma_low g = grind arith

pub sigma_high : (g : SettingsFields) → sigma_of g ≤ 28
unfolding sigma_of
sigma_high g = grind arith

pub unit_positive : (g : SettingsFields) (grain : ℕ) → AreSettings g → 1 ≤ grain → 0 < unit_of g grain
unfolding unit_of
unit_positive g grain settings low = le-div 1 (g.progress + grain - 1) grain (omega arith) (omega (arith, settings.progress.low))

pub unit_high : (g : SettingsFields) (grain : ℕ) → AreSettings g → 1 ≤ grain → unit_of g grain ≤ g.progress
unfolding unit_of
unit_high g grain settings low =
    let more : g.progress * 1 ≤ g.progress * grain = mul-le-mul_left g.progress low in
    let below : (g.progress + grain - 1) / grain < g.progress + 1 = div_below (g.progress + grain - 1) grain (g.progress + 1) (omega (arith, low)) (omega (arith, more, low)) in
    omega (arith, below)

whole : (b u : ℕ) → 0 < u → (b * u - 0) / u ≡ b
whole b u positive = ap (λ (n : ℕ). n / u) (let same : b * u - 0 ≡ b * u = omega arith in same) ∙ mul-div_cancel b positive

-- no progress leaves every bucket as it is
pub stays : (base b u : ℕ) (v m : Bool) → 0 < u → (b * u - progress_gain_of base 0 v m) / u ≡ b
stays base b u v m positive =
    let none : progress_gain_of base 0 v m ≡ 0 = omega arith in
    ap (λ n. (b * u - n) / u) none ∙ whole b u positive

cost_by : (g : SettingsFields) (a : Action) → 5 ≤ rho_of g → 12 ≤ sigma_of g → is_listed g a ≡ true → 10 ≤ cost_of g a
unfolding cost_of
cost_by g BasicSynthesis rho sigma h = grind arith
cost_by g _ rho sigma h = grind arith

-- every cost is at least 10
pub cost_low : (g : SettingsFields) (a : Action) → AreSettings g → is_listed g a ≡ true → 10 ≤ cost_of g a
cost_low g a settings h = cost_by g a (rho_low g settings) (sigma_low g) h

pub ArePriced-cost : (g : SettingsFields) → AreSettings g → ArePriced (cost_of g) g
unfolding is_move_of
ArePriced-cost g settings = record { each = λ x a h. omega (arith, cost_low g a settings (grind arith)) }

pub ArePriced-one : (g : SettingsFields) → ArePriced one g
ArePriced-one g = record { each = λ x a h. omega arith }

pub listed-move : (g : SettingsFields) (x : RelaxedFields) (a : Action) → is_move_of g x a ≡ true → is_listed g a ≡ true
unfolding is_move_of
listed-move g x a h = grind arith

spare_small : (b : Bool) (rho : ℕ) → rho ≤ 14 → (if b then 4 * rho else 0) ≤ 56
spare_small true rho h = omega arith
spare_small false rho h = omega arith

if_high : (b : Bool) (rho : ℕ) → rho ≤ 14 → (if b then 3 * rho else rho) ≤ 42
if_high true rho h = omega arith
if_high false rho h = omega arith

pub slack_high : (g : SettingsFields) → slack_of g ≤ 42
unfolding slack_of
slack_high g = if_high (is_allowed g Groundwork) (rho_of g) (rho_high g)

-- what keeps the sums of costs and of the potential in their ranges
pub ruleset weighing = (rho_times, sigma_times, rho_high, sigma_high, slack_high)

-- no potential is above 1378
pub start_small : (g : SettingsFields) → AreSettings g → start_potential_of g ≤ 1378
unfolding start_potential_of
start_small g settings =
    let product : rho_of g * (g.durability / 5) ≤ 14 * 20 = mul-le (rho_of g) (g.durability / 5) 14 20 (rho_high g) (omega (arith, settings.durability.high)) in
    omega (arith, settings.cp, spare_small (is_allowed g TrainedPerfection) (rho_of g) (rho_high g), slack_high g)
