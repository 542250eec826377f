-- The bounds by steps alone and by the budget alone, as special prices.
use Rattle.std.proofs.Common.{ℕ, true, ◌≡◌, ◌≤◌, ◌-◌, ◌*◌, ◌/◌, min, refl, arith, if◌then◌else◌}
use Rattle.std.proofs.Math.Nat.{mul-le-mul_left}
use Rattle.action_table.specs.declared.action.Action.{Action}
use Rattle.craft_state.specs.declared.Combo.{Combo}
use Rattle.craft_state.specs.declared.Perfection.{Perfection}
use Rattle.craft_state.specs.declared.Perfection.TheVariants.{Ready, On, Spent}
use Rattle.craft_state.specs.Craft.{StateFields}
use Rattle.craft_settings.specs.Ranges.{SettingsFields, AreSettings}
use Rattle.craft_settings.specs.Rules.{is_allowed}
use Rattle.relaxed_moves.specs.Budget.{rho_of, sigma_of, slack_of, is_spent, cost_of, potential_of}
use Rattle.relaxed_moves.proofs.Costs.{rho_low, rho_high}
use Rattle.priced_moves.specs.Prices.{price_of, AreFair, spared, worth_of, steps_alone, budget_alone}
use Rattle.priced_moves.proofs.Fairness.{quotient_times, price-some}
use Rattle.priced_moves.proofs.Places.{own-cp}
use Rattle.relaxed_moves.proofs.RestPrices.{rho-manipulation, rho-mend, sigma-waste, sigma-waste_more, combo_cost}

-- each move costs one, and so many steps are worth so many
pub price-steps : (g : SettingsFields) (combo : Combo) (a : Action) → price_of steps_alone g combo a ≡ 1
unfolding price_of
price-steps g combo a = omega arith

spared-none : (perfection : Perfection) → spared steps_alone perfection ≡ 0
spared-none Ready = refl
spared-none On = refl
spared-none Spent = refl

pub worth-steps : (s : StateFields) (j : ℕ) → worth_of steps_alone s j ≡ j
unfolding worth_of
worth-steps s j = omega (arith, spared-none s.effects.perfection)

pub AreFair-steps : (g : SettingsFields) → AreFair g steps_alone
AreFair-steps g = record {
  coin = omega arith;
  five = record {
    masters_mend = λ allowed. omega arith;
    manipulation = λ allowed. omega arith;
    immaculate_mend = λ allowed. omega arith;
  };
  waste = record {
    waste_not = λ allowed. omega arith;
    waste_not_ii = λ allowed. omega arith;
  };
  moves = λ combo a listed. price-some steps_alone g combo a (omega arith) (omega arith) (omega arith) listed;
}

-- the weights are fair
pub AreFair-budget : (g : SettingsFields) → AreSettings g → AreFair g (budget_alone g)
AreFair-budget g settings = record {
  coin = omega arith;
  five = record {
    masters_mend = λ allowed. omega (arith, rho_high g);
    manipulation = λ allowed. omega (arith, rho-manipulation g allowed);
    immaculate_mend = λ allowed. omega (arith, quotient_times 112 (g.durability / 5 - 1) (rho_of g) (rho-mend g allowed));
  };
  waste = record {
    waste_not = λ allowed. omega (arith, sigma-waste g allowed);
    waste_not_ii = λ allowed. omega (arith, sigma-waste_more g allowed);
  };
  moves = λ combo a listed. price-some (budget_alone g) g combo a (omega arith) (omega arith) (omega (arith, rho_low g settings)) listed;
}

-- no move costs less than its weight
pub price-budget : (g : SettingsFields) (combo : Combo) (a : Action) → is_allowed g a ≡ true → cost_of g a ≤ price_of (budget_alone g) g combo a
unfolding cost_of price_of
price-budget g combo a allowed = omega (arith, combo_cost a g.level combo, own-cp g combo a allowed)

spared-by : (g : SettingsFields) (perfection : Perfection) → spared (budget_alone g) perfection ≤ (if is_spent perfection then 0 else 4 * rho_of g)
spared-by g Ready = omega arith
spared-by g On = omega arith
spared-by g Spent = omega arith

slack-low : (g : SettingsFields) → rho_of g ≤ slack_of g
unfolding slack_of
slack-low g = grind arith

-- no state is worth more than its potential
pub worth-budget : (g : SettingsFields) (s : StateFields) (j : ℕ) → worth_of (budget_alone g) s j ≤ potential_of g s
unfolding worth_of potential_of
worth-budget g s j =
    let fives : rho_of g * min s.effects.manipulation (j - 1) ≤ rho_of g * s.effects.manipulation = mul-le-mul_left (rho_of g) (omega arith) in
    let waste : sigma_of g * min s.effects.waste j ≤ sigma_of g * s.effects.waste = mul-le-mul_left (sigma_of g) (omega arith) in
    omega (arith, fives, waste, spared-by g s.effects.perfection, slack-low g)
