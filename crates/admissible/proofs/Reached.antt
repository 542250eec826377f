-- States that are reached have no more potential than the start, and no macro beats a limit on its way.
use Rattle.std.proofs.Common.{ℕ, Bool, true, false, List, [], ◌∷◌, Option, Some, None, ◌≡◌, ◌≤◌, ◌+◌, ◌-◌, ◌*◌, ◌/◌, ◌||◌, ◌==◌, nat_lt, nat_le, length, refl, sym, subst, arith, if◌then◌else◌}
use Rattle.step_rules.proofs.MeasureFalls.{durability-acted}
use Rattle.plain_lemmas.proofs.Tests.{some_same, clash}
use Rattle.std.proofs.Math.Nat.{mul-le-mul_left}
use Rattle.action_table.specs.declared.action.Action.{Action}
use Rattle.action_table.specs.declared.action.Action.TheVariants.{BasicSynthesis}
use Rattle.craft_state.specs.Craft.{EffectFields, StateFields}
use Rattle.craft_settings.specs.Ranges.{SettingsFields, AreSettings}
use Rattle.craft_settings.specs.Rules.{cap_of}
use Rattle.combo_effects.specs.Combos.{tick_of, after_of}
use Rattle.step_rules.specs.Legality.{is_legal, is_over, is_complete, start_of, IsWithin}
use Rattle.step_rules.specs.Run.{run_of}
use Rattle.step_rules.specs.Macro.{counted}
use Rattle.step_rules.specs.Step.{acted_of, settled_of, step_of}
use Rattle.step_rules.proofs.Bounds.{IsWithin-step, IsWithin-start, still_live}
use Rattle.step_rules.proofs.LegalFacts.{legal_facts}
use Rattle.relaxed_moves.specs.Budget.{rho_of, sigma_of, slack_of, cost_of, potential_of, start_potential_of, is_spent}
use Rattle.relaxed_moves.specs.Moves.{relax_of, unit_of, RelaxedFields, IsNoBetter}
use Rattle.relaxed_moves.specs.declared.places.TheConstants.{MOST_MOVES}
use Rattle.relaxed_moves.specs.Optimum.{option_le, best_plan, one, capped, limit_of, within_of}
use Rattle.relaxed_moves.proofs.Greatest.{option_le-refl, option_le-trans}
use Rattle.relaxed_moves.proofs.Order.{best_plan-no_better, AreRelaxed-relax}
use Rattle.relaxed_moves.proofs.Costs.{ArePriced-cost, unit_positive}
use Rattle.craft_state.specs.NotLess.{IsNotLess}
use Rattle.admissible.proofs.Potential.{strength, potential-strength, potential_falls, step-settled}
use Rattle.admissible.proofs.Limits.{limit-law, within-law, last-limit, last-within}

-- also a step that ends the craft doesn't raise the potential
strength-any : (g : SettingsFields) (s : StateFields) (a : Action) → strength (acted_of g s a) ≤ strength s
unfolding acted_of
strength-any g s BasicSynthesis = grind arith
strength-any g s _ = grind arith

parts-any : (g : SettingsFields) (s : StateFields) (a : Action) → ((acted_of g s a).cp ≤ s.cp) × ((acted_of g s a).effects.waste ≡ s.effects.waste)
unfolding acted_of
parts-any g s a = (omega arith, refl)

worth-less : (rho sigma slack cp cp' h h' w w' : ℕ) → cp' ≤ cp → h' ≤ h → w' ≤ w → cp' + rho * h' + sigma * w' + slack ≤ cp + rho * h + sigma * w + slack
worth-less rho sigma slack cp cp' h h' w w' a b c =
    let m : rho * h' ≤ rho * h = mul-le-mul_left rho b in
    let n : sigma * w' ≤ sigma * w = mul-le-mul_left sigma c in
    omega arith

potential-acted : (g : SettingsFields) (s : StateFields) (a : Action) → potential_of g (acted_of g s a) ≤ potential_of g s
potential-acted g s a =
    let parts = parts-any g s a in
    rw (potential-strength g (acted_of g s a), potential-strength g s)
    (worth-less (rho_of g) (sigma_of g) (slack_of g) s.cp (acted_of g s a).cp (strength s) (strength (acted_of g s a)) s.effects.waste (acted_of g s a).effects.waste parts.0 (strength-any g s a) (omega (arith, parts.1)))

step-acted : (g : SettingsFields) (s : StateFields) (a : Action) → is_over g (acted_of g s a) ≡ true → step_of g s a ≡ acted_of g s a
unfolding step_of
step-acted g s a over = rw over refl

settled-over : (g : SettingsFields) (before : EffectFields) (a : Action) (s : StateFields) → s.durability ≤ g.durability → is_over g s ≡ false → is_over g (settled_of g before a s) ≡ false
unfolding settled_of
settled-over g before a s within live = still_live (s.progress == g.progress) s.durability _ live (omega arith)

still-going : (g : SettingsFields) (s : StateFields) (a : Action) → s.durability ≤ g.durability → is_over g (acted_of g s a) ≡ false → is_over g (step_of g s a) ≡ true → ⊥
still-going g s a within going over =
    clash (subst (λ t. is_over g t ≡ true) (step-settled g s a going) over) (settled-over g s.effects a (acted_of g s a) (durability-acted g s a within) going)

over-acted : (g : SettingsFields) (s : StateFields) (a : Action) → s.durability ≤ g.durability → is_over g (step_of g s a) ≡ true → potential_of g (step_of g s a) ≤ potential_of g s
over-acted g s a within over =
    elim (is_over g (acted_of g s a)) as (λ b. is_over g (acted_of g s a) ≡ b → potential_of g (step_of g s a) ≤ potential_of g s) [
      | true ↦ λ e. rw (step-acted g s a e) (potential-acted g s a)
      | false ↦ λ e. absurd (still-going g s a within e over)
    ] refl

-- each legal step
pub potential-any : (g : SettingsFields) (s : StateFields) (a : Action) → IsWithin g s → is_legal g s a ≡ true → potential_of g (step_of g s a) ≤ potential_of g s
potential-any g s a within legal =
    elim (is_over g (step_of g s a)) as (λ b. is_over g (step_of g s a) ≡ b → potential_of g (step_of g s a) ≤ potential_of g s) [
      | true ↦ λ e. over-acted g s a within.durability e
      | false ↦ λ e. potential_falls g s a record { within = within; legal = legal; live = e }
    ] refl

pub ran : (b : Bool) (o : Option StateFields) (t : StateFields) → (if b then o else None) ≡ Some t → (b ≡ true) × (o ≡ Some t)
ran true o t h = (refl, h)
ran false o t h = absurd (cc)

pub potential-run : (g : SettingsFields) (s t : StateFields) (m : List Action) → IsWithin g s → run_of g s m ≡ Some t → potential_of g t ≤ potential_of g s
potential-run g s t [] within h = let e : s ≡ t = some_same s t h in subst (λ u. potential_of g u ≤ potential_of g s) e (omega arith)
potential-run g s t (a ∷ m) within h =
    let parts = ran (is_legal g s a) (run_of g (step_of g s a) m) t h in
    omega (arith, potential-any g s a within parts.0, potential-run g (step_of g s a) t m (IsWithin-step g s a within) parts.1)

pub potential-start : (g : SettingsFields) → potential_of g (start_of g) ≡ start_potential_of g
unfolding potential_of start_potential_of
potential-start g = grind arith

-- no state that is reached has more potential than the start
pub potential-reached : (g : SettingsFields) (t : StateFields) (m : List Action) → AreSettings g → run_of g (start_of g) m ≡ Some t → potential_of g t ≤ start_potential_of g
potential-reached g t m settings h = rw (sym (potential-start g)) (potential-run g (start_of g) t m (IsWithin-start g settings) h)

first-by : (b : Bool) (s t : StateFields) → s.effects.first ≡ false → t.effects.first ≡ false → (if b then s else t).effects.first ≡ false
first-by true s t h k = h
first-by false s t h k = k

pub first-step : (g : SettingsFields) (s : StateFields) (a : Action) → (step_of g s a).effects.first ≡ false
unfolding step_of acted_of settled_of tick_of after_of
first-step g s BasicSynthesis = first-by (is_over g (acted_of g s BasicSynthesis)) _ _ refl refl
first-step g s a = first-by (is_over g (acted_of g s a)) _ _ refl refl

-- only a list without actions leaves the first step to come
pub first-run : (g : SettingsFields) (s t : StateFields) (a : Action) (m : List Action) → run_of g s (a ∷ m) ≡ Some t → t.effects.first ≡ false
first-run g s t a [] h =
    let parts = ran (is_legal g s a) (run_of g (step_of g s a) []) t h in
    let e : step_of g s a ≡ t = some_same (step_of g s a) t parts.1 in
    subst (λ u. u.effects.first ≡ false) e (first-step g s a)
first-run g s t a (b ∷ m) h =
    let parts = ran (is_legal g s a) (run_of g (step_of g s a) (b ∷ m)) t h in
    first-run g (step_of g s a) t b m parts.1

pub first-macro : (g : SettingsFields) (s t : StateFields) (m : List Action) → 1 ≤ length m → run_of g s m ≡ Some t → t.effects.first ≡ false
first-macro g s t [] some h = absurd (omega arith)
first-macro g s t (a ∷ m) some h = first-run g s t a m h

pub complete_over : (c d : Bool) → c ≡ true → (c || d) ≡ false → ⊥
complete_over c d h k = cc

-- a craft that is over goes no further
pub over-run : (g : SettingsFields) (s t : StateFields) (m : List Action) → is_over g s ≡ true → run_of g s m ≡ Some t → s ≡ t
over-run g s t [] over h = some_same s t h
over-run g s t (a ∷ m) over h =
    let parts = ran (is_legal g s a) (run_of g (step_of g s a) m) t h in
    absurd (clash over (legal_facts g s a parts.0).live)

-- the limit of a state is at least the quality of each complete macro through it
pub limit-run : (g : SettingsFields) (grain : ℕ) (s t : StateFields) (m : List Action) → 1 ≤ grain → IsWithin g s → s.effects.first ≡ false → is_over g s ≡ false →
    run_of g s m ≡ Some t → is_complete g t ≡ true → option_le (Some (counted g t)) (limit_of g grain s)
limit-run g grain s t [] low within first live h done =
    let e : s ≡ t = some_same s t h in
    absurd (complete_over (is_complete g s) _ (subst (λ u. is_complete g u ≡ true) (sym e) done) live)
limit-run g grain s t (a ∷ m) low within first live h done =
    let parts = ran (is_legal g s a) (run_of g (step_of g s a) m) t h in
    let rest = limit-run g grain (step_of g s a) t m low (IsWithin-step g s a within) (first-step g s a) in
    elim (is_over g (step_of g s a)) as (λ b. is_over g (step_of g s a) ≡ b → option_le (Some (counted g t)) (limit_of g grain s)) [
      | true ↦ λ over.
          let e : step_of g s a ≡ t = over-run g (step_of g s a) t m over parts.1 in
          subst (λ u. option_le (Some (counted g u)) (limit_of g grain s)) e
          (last-limit g grain s a record { step = record { within = within; legal = parts.0; done = subst (λ u. is_complete g u ≡ true) (sym e) done }; first = first; low = low })
      | false ↦ λ going.
          option_le-trans (Some (counted g t)) _ _ (rest going parts.1 done)
          (limit-law g grain s a record { step = record { within = within; legal = parts.0; live = going }; first = first; low = low })
    ] refl

-- and so is the limit within as many steps or more
pub within-enough : (g : SettingsFields) (grain : ℕ) (s t : StateFields) (m : List Action) (j : ℕ) → 1 ≤ grain → IsWithin g s → s.effects.first ≡ false → is_over g s ≡ false →
    run_of g s m ≡ Some t → is_complete g t ≡ true → length m ≤ j → option_le (Some (counted g t)) (within_of g grain s j)
within-enough g grain s t [] j low within first live h done enough =
    let e : s ≡ t = some_same s t h in
    absurd (complete_over (is_complete g s) _ (subst (λ u. is_complete g u ≡ true) (sym e) done) live)
within-enough g grain s t (a ∷ m) j low within first live h done enough =
    let parts = ran (is_legal g s a) (run_of g (step_of g s a) m) t h in
    let some : 1 ≤ j = omega (arith, enough) in
    let rest = within-enough g grain (step_of g s a) t m (j - 1) low (IsWithin-step g s a within) (first-step g s a) in
    elim (is_over g (step_of g s a)) as (λ b. is_over g (step_of g s a) ≡ b → option_le (Some (counted g t)) (within_of g grain s j)) [
      | true ↦ λ over.
          let e : step_of g s a ≡ t = over-run g (step_of g s a) t m over parts.1 in
          subst (λ u. option_le (Some (counted g u)) (within_of g grain s j)) e
          (last-within g grain s a j record { step = record { within = within; legal = parts.0; done = subst (λ u. is_complete g u ≡ true) (sym e) done }; first = first; low = low } some)
      | false ↦ λ going.
          option_le-trans (Some (counted g t)) _ _ (rest going parts.1 done (omega (arith, enough)))
          (within-law g grain s a j record { step = record { within = within; legal = parts.0; live = going }; first = first; low = low } some)
    ] refl

pub within-run : (g : SettingsFields) (grain : ℕ) (s t : StateFields) (m : List Action) → 1 ≤ grain → IsWithin g s → s.effects.first ≡ false → is_over g s ≡ false →
    run_of g s m ≡ Some t → is_complete g t ≡ true → option_le (Some (counted g t)) (within_of g grain s (length m))
within-run g grain s t m low within first live h done = within-enough g grain s t m (length m) low within first live h done (omega arith)

-- a state that isn't less has no lower limits
pub ap_le : (f : EffectFields → ℕ) (e e' : EffectFields) → e ≡ e' → f e ≤ f e'
ap_le f e e' same = subst (λ u. f e ≤ f u) same (omega arith)

not_weaker : (a b : StateFields) → IsNotLess a b → strength b ≤ strength a
not_weaker a b h =
    let less : b.durability / 5 ≤ a.durability / 5 = omega (arith, h.durability) in
    omega (arith, less, ap_le (λ e. e.manipulation + (if is_spent e.perfection then 0 else 4)) b.effects a.effects (sym h.effects))

pub potential-not_less : (g : SettingsFields) (a b : StateFields) → IsNotLess a b → potential_of g b ≤ potential_of g a
potential-not_less g a b h =
    let strong : strength b ≤ strength a = not_weaker a b h in
    rw (potential-strength g a, potential-strength g b)
    (worth-less (rho_of g) (sigma_of g) (slack_of g) a.cp b.cp (strength a) (strength b) a.effects.waste b.effects.waste h.cp strong (ap_le (λ e. e.waste) b.effects a.effects (sym h.effects)))

capped-more : (g : SettingsFields) (s s' : StateFields) (o o' : Option ℕ) → s.quality ≤ s'.quality → option_le o o' → option_le (capped g s o) (capped g s' o')
capped-more g s s' None o' more h = tt
capped-more g s s' (Some a) None more h = absurd h
capped-more g s s' (Some a) (Some b) more h = omega arith

same-relaxed : (g : SettingsFields) (grain : ℕ) (a b : StateFields) → IsNotLess a b → relax_of g grain b ≡ relax_of g grain a
unfolding relax_of
same-relaxed g grain a b h = λ i. record {
  bucket = (g.progress - sym h.progress i) / unit_of g grain;
  iq = (sym h.effects i).iq;
  innovation = (sym h.effects i).innovation;
  veneration = (sym h.effects i).veneration;
  strides = nat_lt 0 (sym h.effects i).strides;
  muscle = nat_lt 0 (sym h.effects i).muscle;
}

IsNoBetter-refl : (x : RelaxedFields) → IsNoBetter x x
IsNoBetter-refl x = record { bucket = omega arith; iq = omega arith; innovation = omega arith; veneration = omega arith; strides = λ e. e; muscle = λ e. e }

pub limit-not_less : (g : SettingsFields) (grain : ℕ) (a b : StateFields) → 1 ≤ grain → IsWithin g a → IsNotLess a b → option_le (limit_of g grain b) (limit_of g grain a)
unfolding limit_of
limit-not_less g grain a b low within h =
    capped-more g b a _ _ h.quality
    (subst (λ x. option_le (best_plan (cost_of g) g grain (potential_of g b) x) (best_plan (cost_of g) g grain (potential_of g a) (relax_of g grain a))) (sym (same-relaxed g grain a b h))
    (best_plan-no_better (cost_of g) g grain (potential_of g b) (potential_of g a) (relax_of g grain a) (relax_of g grain a) (ArePriced-cost g within.settings) (unit_positive g grain within.settings low)
    (potential-not_less g a b h) (IsNoBetter-refl (relax_of g grain a)) (AreRelaxed-relax g grain a within.effects)))

if_less : (c : Bool) (o o' : Option ℕ) (m : ℕ) → option_le o o' → option_le (if c then o else Some m) (if c then o' else Some m)
if_less true o o' m h = h
if_less false o o' m h = omega arith

pub within-not_less : (g : SettingsFields) (grain : ℕ) (a b : StateFields) (j : ℕ) → 1 ≤ grain → IsWithin g a → IsNotLess a b → option_le (within_of g grain b j) (within_of g grain a j)
unfolding within_of
within-not_less g grain a b j low within h =
    if_less (nat_le j MOST_MOVES) _ _ (cap_of g)
    (capped-more g b a _ _ h.quality
    (subst (λ x. option_le (best_plan one g grain j x) (best_plan one g grain j (relax_of g grain a))) (sym (same-relaxed g grain a b h)) (option_le-refl _)))
