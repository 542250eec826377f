-- The test keeps what the fronts ask of a test.
use Rattle.std.proofs.Common.{◌≡◌, ◌∙◌, ℕ, List, length, ◌+◌, ◌≤◌, true, false, ◌||◌, ◌&&◌, nat_lt, Option, Some, None, arith, refl, ap, subst}
use Rattle.plain_lemmas.proofs.Tests.{and_by, le_to, and_both, passes_by, le_more, some_test, some_by}
use Rattle.std.proofs.lemmas.Bool.Decides.{nat_tests}
use Rattle.action_table.specs.declared.action.Action.{Action}
use Rattle.craft_state.specs.Craft.{StateFields}
use Rattle.craft_settings.specs.Ranges.{SettingsFields}
use Rattle.step_rules.specs.Legality.{IsWithin}
use Rattle.step_rules.specs.Macro.{counted}
use Rattle.step_rules.specs.Step.{step_of}
use Rattle.relaxed_moves.specs.Optimum.{option_le, is_enough}
use Rattle.relaxed_moves.proofs.Greatest.{enough-more, enough-some}
use Rattle.prefix_fronts.specs.Prefix.{Test, AreLimits}
use Rattle.admissible.proofs.Reached.{first-step}
use Rattle.priced_moves.specs.declared.kinds.Prices.{Prices}
use Rattle.priced_moves.specs.declared.kinds.Units.{Units}
use Rattle.priced_moves.specs.Moves.{AreUnits}
use Rattle.priced_moves.specs.Prices.{AreFair}
use Rattle.priced_moves.specs.Optimum.{limit_of, reaches}
use Rattle.priced_laws.specs.Laws.{IsDone}
use Rattle.priced_laws.proofs.Limits.{limit-step, limit-last, limit-not_less}
use Rattle.priced_laws.proofs.Reached.{limit-steps, limit-run, some-run}

-- a state passes before the first step
reaches-first : (p : Prices) (g : SettingsFields) (units : Units) (target j : ℕ) (s : StateFields) → s.effects.first ≡ true → reaches p g units target j s ≡ true
unfolding reaches
reaches-first p g units target j s first = rw first refl

-- and where a step is left and its limit is enough
reaches-by : (p : Prices) (g : SettingsFields) (units : Units) (target j : ℕ) (s : StateFields) → 1 ≤ j → is_enough target (limit_of p g units s j) ≡ true → reaches p g units target j s ≡ true
unfolding reaches
reaches-by p g units target j s some enough = passes_by s.effects.first _ _ (some_test j some) enough

reaches-parts : (p : Prices) (g : SettingsFields) (units : Units) (target j : ℕ) (s : StateFields) → s.effects.first ≡ false → reaches p g units target j s ≡ true →
    (1 ≤ j) × (is_enough target (limit_of p g units s j) ≡ true)
unfolding reaches
reaches-parts p g units target j s later h =
    let parts = and_both _ _ (subst (λ b. (b || (nat_lt 0 j && is_enough target (limit_of p g units s j))) ≡ true) later h) in
    (some_by j parts.0, parts.1)

-- by whether the first step is still to come
pub by-first : (P : Type 0) (s : StateFields) → (s.effects.first ≡ true → P) → (s.effects.first ≡ false → P) → P
by-first P s to_come over = elim (s.effects.first) as (λ b. s.effects.first ≡ b → P) [ true ↦ to_come | false ↦ over ] refl

-- more steps and a lower target are no harder
lower_enough : (target lower : ℕ) (o : Option ℕ) → lower ≤ target → is_enough target o ≡ true → is_enough lower o ≡ true
lower_enough target lower None less h = h
lower_enough target lower (Some a) less h = grind (arith, nat_tests)

pub reaches-more : (p : Prices) (g : SettingsFields) (units : Units) (target lower : ℕ) (s : StateFields) (i j : ℕ) → AreFair g p → AreUnits units → IsWithin g s → i ≤ j → lower ≤ target →
    reaches p g units target i s ≡ true → reaches p g units lower j s ≡ true
reaches-more p g units target lower s i j fair are within more less pass =
    by-first (reaches p g units lower j s ≡ true) s (reaches-first p g units lower j s) (λ later.
    let parts = reaches-parts p g units target i s later pass in
    reaches-by p g units lower j s (omega (arith, parts.0))
    (lower_enough target lower _ less (enough-more target _ _ (limit-steps p g units s i j fair are within more) parts.1)))

-- where a macro reaches the target, each state before it passes
pub reaches-done : (p : Prices) (g : SettingsFields) (units : Units) (target : ℕ) (s t : StateFields) (m : List Action) → AreFair g p → AreUnits units → IsDone g s m t → target ≤ counted g t →
    reaches p g units target (length m) s ≡ true
reaches-done p g units target s t m fair are done enough =
    by-first (reaches p g units target (length m) s ≡ true) s (reaches-first p g units target (length m) s) (λ later.
    reaches-by p g units target (length m) s (some-run g s t m done.live done.ran done.complete)
    (enough-some target _ _ enough (limit-run p g units s t m fair are done later)))

pub are_limits : (p : Prices) (g : SettingsFields) (units : Units) (target : ℕ) → AreFair g p → AreUnits units → AreLimits g target (reaches p g units target)
are_limits p g units target fair are = record {
  step = λ j s action within live legal goes pass.
      by-first (reaches p g units target (j + 1) s ≡ true) s (reaches-first p g units target (j + 1) s) (λ later.
      let parts = reaches-parts p g units target j (step_of g s action) (first-step g s action) pass in
      reaches-by p g units target (j + 1) s (omega arith)
      (enough-more target _ _ (limit-step p g units s action j fair are record { step = record { within = within; legal = legal; live = goes }; first = later } parts.0) parts.1));
  order = λ j a b within within' live not_less pass.
      by-first (reaches p g units target j a ≡ true) b
      (λ first. reaches-first p g units target j a (ap (λ e. e.first) not_less.effects ∙ first))
      (λ later.
      let parts = reaches-parts p g units target j b later pass in
      reaches-by p g units target j a parts.0 (enough-more target _ _ (limit-not_less p g units a b j fair are within not_less) parts.1));
  last = λ j s action within live legal done enough.
      by-first (reaches p g units target (j + 1) s ≡ true) s (reaches-first p g units target (j + 1) s) (λ later.
      reaches-by p g units target (j + 1) s (omega arith)
      (enough-some target _ _ enough (limit-last p g units s action (j + 1) fair are record { step = record { within = within; legal = legal; done = done }; first = later } (omega arith))));
}

-- two tests together
pub AreLimits-both : (g : SettingsFields) (target : ℕ) (one two : Test) → AreLimits g target one → AreLimits g target two → AreLimits g target (λ j s. one j s && two j s)
AreLimits-both g target one two h k = record {
  step = λ j s action within live legal goes pass.
      let parts = and_both (one j (step_of g s action)) (two j (step_of g s action)) pass in
      and_by _ _ (h.step j s action within live legal goes parts.0) (k.step j s action within live legal goes parts.1);
  order = λ j a b within within' live less pass.
      let parts = and_both (one j b) (two j b) pass in
      and_by _ _ (h.order j a b within within' live less parts.0) (k.order j a b within within' live less parts.1);
  last = λ j s action within live legal done enough.
      and_by _ _ (h.last j s action within live legal done enough) (k.last j s action within live legal done enough);
}
