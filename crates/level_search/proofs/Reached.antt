-- The bounds keep what the fronts ask of a test.
use Rattle.std.proofs.Common.{◌≡◌, ◌∙◌, ℕ, ◌+◌, ◌-◌, ◌≤◌, true, false, ◌||◌, ◌&&◌, nat_le, arith, refl, ap, subst}
use Rattle.craft_state.specs.Craft.{StateFields}
use Rattle.craft_settings.specs.Ranges.{SettingsFields}
use Rattle.step_rules.specs.Legality.{start_of}
use Rattle.step_rules.specs.Step.{step_of}
use Rattle.relaxed_moves.specs.Optimum.{option_le, limit_of, within_of, is_enough}
use Rattle.relaxed_moves.proofs.Greatest.{enough-more, enough-some}
use Rattle.relaxed_moves.specs.Budget.{potential_of, start_potential_of}
use Rattle.prefix_fronts.specs.Prefix.{AreLimits}
use Rattle.priced_laws.proofs.Reaching.{by-first}
use Rattle.admissible.proofs.Limits.{Later, limit-law, within-law, last-limit, last-within}
use Rattle.admissible.proofs.Reached.{first-step, limit-not_less, potential-start, within-not_less}
use Rattle.level_search.specs.Reaching.{bounds_reach}
use Rattle.plain_lemmas.proofs.Tests.{and_both, passes_by, le_to}
use Rattle.plain_lemmas.proofs.Numbers.{one_less}

-- a state passes before the first step
reaches-first : (g : SettingsFields) (grain target j : ℕ) (s : StateFields) → s.effects.first ≡ true → bounds_reach g grain target j s ≡ true
unfolding bounds_reach
reaches-first g grain target j s first = rw first refl

-- and where both bounds are enough
reaches-by : (g : SettingsFields) (grain target j : ℕ) (s : StateFields) → is_enough target (within_of g grain s j) ≡ true → is_enough target (limit_of g grain s) ≡ true → bounds_reach g grain target j s ≡ true
unfolding bounds_reach
reaches-by g grain target j s within limit = passes_by s.effects.first _ _ within limit

reaches-parts : (g : SettingsFields) (grain target j : ℕ) (s : StateFields) → s.effects.first ≡ false → bounds_reach g grain target j s ≡ true →
    (is_enough target (within_of g grain s j) ≡ true) × (is_enough target (limit_of g grain s) ≡ true)
unfolding bounds_reach
reaches-parts g grain target j s later h =
    and_both _ _ (subst (λ b. (b || (is_enough target (within_of g grain s j) && is_enough target (limit_of g grain s))) ≡ true) later h)

pub are_limits : (g : SettingsFields) (grain target : ℕ) → 1 ≤ grain → AreLimits g target (bounds_reach g grain target)
are_limits g grain target low = record {
  step = λ j s action within live legal goes pass.
      by-first (bounds_reach g grain target (j + 1) s ≡ true) s (reaches-first g grain target (j + 1) s) (λ later.
      let parts = reaches-parts g grain target j (step_of g s action) (first-step g s action) pass in
      let law : Later g grain s action = record { step = record { within = within; legal = legal; live = goes }; first = later; low = low } in
      let less = subst (λ (i : ℕ). option_le (within_of g grain (step_of g s action) i) (within_of g grain s (j + 1))) (one_less j) (within-law g grain s action (j + 1) law (omega arith)) in
      reaches-by g grain target (j + 1) s (enough-more target _ _ less parts.0) (enough-more target _ _ (limit-law g grain s action law) parts.1));
  order = λ j a b within within' live not_less pass.
      by-first (bounds_reach g grain target j a ≡ true) b
      (λ first. reaches-first g grain target j a (ap (λ e. e.first) not_less.effects ∙ first))
      (λ later.
      let parts = reaches-parts g grain target j b later pass in
      reaches-by g grain target j a (enough-more target _ _ (within-not_less g grain a b j low within not_less) parts.0) (enough-more target _ _ (limit-not_less g grain a b low within not_less) parts.1));
  last = λ j s action within live legal done enough.
      by-first (bounds_reach g grain target (j + 1) s ≡ true) s (reaches-first g grain target (j + 1) s) (λ later.
      reaches-by g grain target (j + 1) s
      (enough-some target _ _ enough (last-within g grain s action (j + 1) record { step = record { within = within; legal = legal; done = done }; first = later; low = low } (omega arith)))
      (enough-some target _ _ enough (last-limit g grain s action record { step = record { within = within; legal = legal; done = done }; first = later; low = low })));
}

-- the start may be asked for
pub start_allowed : (g : SettingsFields) → nat_le (potential_of g (start_of g)) (start_potential_of g) ≡ true
start_allowed g = le_to _ _ (omega (arith, potential-start g))
