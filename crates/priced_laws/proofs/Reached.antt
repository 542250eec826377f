-- No macro beats a limit on its way, and no state is worth more than where a macro to it begins.
use Rattle.std.proofs.Common.{ℕ, suc, true, false, List, [], ◌∷◌, Some, ◌≡◌, ◌≤◌, ◌+◌, ◌-◌, ◌*◌, ◌/◌, min, length, refl, sym, subst, arith}
use Rattle.plain_lemmas.proofs.Tests.{some_same, clash}
use Rattle.std.proofs.Math.Nat.{mul-le-mul_left}
use Rattle.action_table.specs.declared.action.Action.{Action}
use Rattle.craft_state.specs.Craft.{StateFields, AreEffects}
use Rattle.craft_settings.specs.Ranges.{SettingsFields}
use Rattle.step_rules.specs.Legality.{is_legal, is_over, is_complete, IsWithin}
use Rattle.step_rules.specs.Run.{run_of}
use Rattle.step_rules.specs.Macro.{counted}
use Rattle.step_rules.specs.Step.{step_of}
use Rattle.step_rules.proofs.Bounds.{IsWithin-step}
use Rattle.relaxed_moves.specs.Optimum.{option_le}
use Rattle.relaxed_moves.proofs.Greatest.{option_le-trans}
use Rattle.admissible.proofs.Reached.{ran, complete_over, first-step, over-run}
use Rattle.priced_moves.specs.declared.kinds.Prices.{Prices}
use Rattle.priced_moves.specs.declared.kinds.Units.{Units}
use Rattle.priced_moves.specs.Moves.{AreUnits, seen_of}
use Rattle.priced_moves.specs.Prices.{AreFair, spared, raw_worth, worth_of}
use Rattle.priced_moves.specs.Optimum.{limit_of}
use Rattle.priced_moves.proofs.Order.{best-more}
use Rattle.priced_moves.proofs.Rounding.{quotient-more}
use Rattle.priced_laws.specs.Laws.{GoesLater, StaysLive, IsDone}
use Rattle.priced_laws.proofs.Worth.{worth-rest}
use Rattle.priced_laws.proofs.Limits.{limit-step, limit-last, capped-more, seen-ten, IsNoAbler-refl}
use Rattle.plain_lemmas.proofs.Numbers.{one_more}

-- more steps are worth no less
more-steps : (alpha rho sigma step cp d m w f over i j : ℕ) → i ≤ j →
    alpha * cp + rho * (d + min m (i - 1)) + sigma * min w i + f + over + step * i ≤ alpha * cp + rho * (d + min m (j - 1)) + sigma * min w j + f + over + step * j
more-steps alpha rho sigma step cp d m w f over i j more =
    let a : rho * (d + min m (i - 1)) ≤ rho * (d + min m (j - 1)) = mul-le-mul_left rho (omega arith) in
    let b : sigma * min w i ≤ sigma * min w j = mul-le-mul_left sigma (omega arith) in
    let c : step * i ≤ step * j = mul-le-mul_left step more in
    omega arith

pub worth-steps : (p : Prices) (s : StateFields) (i j : ℕ) → 1 ≤ p.coin → i ≤ j → worth_of p s i ≤ worth_of p s j
unfolding worth_of
worth-steps p s i j coin more =
    quotient-more (raw_worth p s i) (raw_worth p s j) p.coin coin
    (more-steps p.cp p.five p.waste p.step s.cp (s.durability / 5) s.effects.manipulation s.effects.waste (spared p s.effects.perfection) p.five i j more)

-- where steps cost nothing, nine are as good as any number
free-steps : (alpha rho sigma step cp d m w f over i j : ℕ) → step ≡ 0 → m ≤ 8 → w ≤ 8 → 9 ≤ j →
    alpha * cp + rho * (d + min m (i - 1)) + sigma * min w i + f + over + step * i ≤ alpha * cp + rho * (d + min m (j - 1)) + sigma * min w j + f + over + step * j
free-steps alpha rho sigma step cp d m w f over i j free manipulation waste many =
    let a : rho * (d + min m (i - 1)) ≤ rho * (d + min m (j - 1)) = mul-le-mul_left rho (omega arith) in
    let b : sigma * min w i ≤ sigma * min w j = mul-le-mul_left sigma (omega arith) in
    rw free (omega (arith, a, b))

worth-free : (p : Prices) (s : StateFields) (i j : ℕ) → 1 ≤ p.coin → p.step ≡ 0 → AreEffects s.effects → 9 ≤ j → worth_of p s i ≤ worth_of p s j
unfolding worth_of
worth-free p s i j coin free effects many =
    quotient-more (raw_worth p s i) (raw_worth p s j) p.coin coin
    (free-steps p.cp p.five p.waste p.step s.cp (s.durability / 5) s.effects.manipulation s.effects.waste (spared p s.effects.perfection) p.five i j free effects.manipulation effects.waste many)

pub limit-worth : (p : Prices) (g : SettingsFields) (units : Units) (s : StateFields) (i j : ℕ) → AreFair g p → AreUnits units → IsWithin g s → worth_of p s i ≤ worth_of p s j →
    option_le (limit_of p g units s i) (limit_of p g units s j)
unfolding limit_of
limit-worth p g units s i j fair are within more =
    capped-more g units s s _ _ (omega arith)
    (best-more p g units (worth_of p s i) (worth_of p s j) (seen_of g units s) (seen_of g units s) fair are more (IsNoAbler-refl (seen_of g units s)) (seen-ten g units s within))

-- more steps have no lower limit
pub limit-steps : (p : Prices) (g : SettingsFields) (units : Units) (s : StateFields) (i j : ℕ) → AreFair g p → AreUnits units → IsWithin g s → i ≤ j →
    option_le (limit_of p g units s i) (limit_of p g units s j)
limit-steps p g units s i j fair are within more = limit-worth p g units s i j fair are within (worth-steps p s i j fair.coin more)

pub limit-free : (p : Prices) (g : SettingsFields) (units : Units) (s : StateFields) (i j : ℕ) → AreFair g p → AreUnits units → IsWithin g s → p.step ≡ 0 → 9 ≤ j →
    option_le (limit_of p g units s i) (limit_of p g units s j)
limit-free p g units s i j fair are within free many = limit-worth p g units s i j fair are within (worth-free p s i j fair.coin free within.effects many)

-- a live state is completed by some action
pub some-run : (g : SettingsFields) (s t : StateFields) (m : List Action) → is_over g s ≡ false → run_of g s m ≡ Some t → is_complete g t ≡ true → 1 ≤ length m
some-run g s t [] live h done =
    let e : s ≡ t = some_same s t h in
    absurd (complete_over (is_complete g s) _ (subst (λ u. is_complete g u ≡ true) (sym e) done) live)
some-run g s t (a ∷ m) live h done = omega arith

limit-next : (p : Prices) (g : SettingsFields) (units : Units) (s t : StateFields) (a : Action) (m : List Action) → AreFair g p → AreUnits units → GoesLater g s a →
    run_of g (step_of g s a) m ≡ Some t → is_complete g t ≡ true → option_le (limit_of p g units (step_of g s a) (length m)) (limit_of p g units s (suc (length m)))
limit-next p g units s t a m fair are later h done =
    subst (λ (n : ℕ). option_le (limit_of p g units (step_of g s a) (length m)) (limit_of p g units s n)) (one_more (length m))
    (limit-step p g units s a (length m) fair are later (some-run g (step_of g s a) t m later.step.live h done))

-- the limit within the steps of a complete macro is at least its quality
run-limit : (p : Prices) (g : SettingsFields) (units : Units) (s t : StateFields) (m : List Action) → AreFair g p → AreUnits units → IsWithin g s → s.effects.first ≡ false → is_over g s ≡ false →
    run_of g s m ≡ Some t → is_complete g t ≡ true → option_le (Some (counted g t)) (limit_of p g units s (length m))
run-limit p g units s t [] fair are within first live h done =
    let e : s ≡ t = some_same s t h in
    absurd (complete_over (is_complete g s) _ (subst (λ u. is_complete g u ≡ true) (sym e) done) live)
run-limit p g units s t (a ∷ m) fair are within first live h done =
    let parts = ran (is_legal g s a) (run_of g (step_of g s a) m) t h in
    let rest = run-limit p g units (step_of g s a) t m fair are (IsWithin-step g s a within) (first-step g s a) in
    elim (is_over g (step_of g s a)) as (λ b. is_over g (step_of g s a) ≡ b → option_le (Some (counted g t)) (limit_of p g units s (suc (length m)))) [
      | true ↦ λ over.
          let e : step_of g s a ≡ t = over-run g (step_of g s a) t m over parts.1 in
          subst (λ u. option_le (Some (counted g u)) (limit_of p g units s (suc (length m)))) e
          (limit-last p g units s a (suc (length m)) fair are record { step = record { within = within; legal = parts.0; done = subst (λ u. is_complete g u ≡ true) (sym e) done }; first = first } (omega arith))
      | false ↦ λ going.
          option_le-trans (Some (counted g t)) _ _ (rest going parts.1 done)
          (limit-next p g units s t a m fair are record { step = record { within = within; legal = parts.0; live = going }; first = first } parts.1 done)
    ] refl

pub limit-run : (p : Prices) (g : SettingsFields) (units : Units) (s t : StateFields) (m : List Action) → AreFair g p → AreUnits units → IsDone g s m t → s.effects.first ≡ false →
    option_le (Some (counted g t)) (limit_of p g units s (length m))
limit-run p g units s t m fair are done first = run-limit p g units s t m fair are done.within first done.live done.ran done.complete

next_steps : (j n : ℕ) → j + n + 1 ≡ j + suc n
next_steps j n = omega arith

-- the limit never rises along a macro
run-along : (p : Prices) (g : SettingsFields) (units : Units) (s t : StateFields) (m : List Action) (j : ℕ) → AreFair g p → AreUnits units → IsWithin g s → s.effects.first ≡ false →
    run_of g s m ≡ Some t → is_over g t ≡ false → 1 ≤ j → option_le (limit_of p g units t j) (limit_of p g units s (j + length m))
run-along p g units s t [] j fair are within first h live some =
    let e : s ≡ t = some_same s t h in
    subst (λ u. option_le (limit_of p g units u j) (limit_of p g units s (j + 0))) e (limit-steps p g units s j (j + 0) fair are within (omega arith))
run-along p g units s t (a ∷ m) j fair are within first h live some =
    let parts = ran (is_legal g s a) (run_of g (step_of g s a) m) t h in
    let rest = run-along p g units (step_of g s a) t m j fair are (IsWithin-step g s a within) (first-step g s a) parts.1 live some in
    elim (is_over g (step_of g s a)) as (λ b. is_over g (step_of g s a) ≡ b → option_le (limit_of p g units t j) (limit_of p g units s (j + suc (length m)))) [
      | true ↦ λ over.
          let e : step_of g s a ≡ t = over-run g (step_of g s a) t m over parts.1 in
          absurd (clash over (subst (λ u. is_over g u ≡ false) (sym e) live))
      | false ↦ λ going.
          let later : GoesLater g s a = record { step = record { within = within; legal = parts.0; live = going }; first = first } in
          option_le-trans _ _ _ rest
          (subst (λ (n : ℕ). option_le (limit_of p g units (step_of g s a) (j + length m)) (limit_of p g units s n)) (next_steps j (length m))
          (limit-step p g units s a (j + length m) fair are later (omega arith)))
    ] refl

pub limit-along : (p : Prices) (g : SettingsFields) (units : Units) (s t : StateFields) (m : List Action) (j : ℕ) → AreFair g p → AreUnits units → StaysLive g s m t → s.effects.first ≡ false → 1 ≤ j →
    option_le (limit_of p g units t j) (limit_of p g units s (j + length m))
limit-along p g units s t m j fair are leads first some = run-along p g units s t m j fair are leads.within first leads.ran leads.live some

-- no state to which a macro leads is worth more than where it begins, with the steps that led there
pub worth-run : (p : Prices) (g : SettingsFields) (s t : StateFields) (m : List Action) (j : ℕ) → AreFair g p → IsWithin g s → run_of g s m ≡ Some t → is_over g t ≡ false → 1 ≤ j →
    worth_of p t j ≤ worth_of p s (j + length m)
worth-run p g s t [] j fair within h live some =
    let e : s ≡ t = some_same s t h in
    subst (λ u. worth_of p u j ≤ worth_of p s (j + 0)) e (worth-steps p s j (j + 0) fair.coin (omega arith))
worth-run p g s t (a ∷ m) j fair within h live some =
    let parts = ran (is_legal g s a) (run_of g (step_of g s a) m) t h in
    let rest = worth-run p g (step_of g s a) t m j fair (IsWithin-step g s a within) parts.1 live some in
    elim (is_over g (step_of g s a)) as (λ b. is_over g (step_of g s a) ≡ b → worth_of p t j ≤ worth_of p s (j + suc (length m))) [
      | true ↦ λ over.
          let e : step_of g s a ≡ t = over-run g (step_of g s a) t m over parts.1 in
          absurd (clash over (subst (λ u. is_over g u ≡ false) (sym e) live))
      | false ↦ λ going.
          let law = worth-rest p g s a (j + length m) fair record { within = within; legal = parts.0; live = going } (omega arith) in
          omega (arith, rest, law, worth-steps p s (j + length m + 1) (j + suc (length m)) fair.coin (omega arith))
    ] refl
