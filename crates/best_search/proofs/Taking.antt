-- How many actions the lists take that complete a craft with the greatest quality, and which of them is the best.
use Rattle.std.proofs.Common.{◌≡◌, ◌∙◌, sym, ℕ, ◌+◌, ◌-◌, ◌/◌, ◌<◌, ◌≤◌, Bool, true, false, nat_le, inl, inr, List, [], ◌∷◌, length, Some, arith, refl, ap, subst}
use Rattle.std.specs.List.{list_any}
use Rattle.plain_lemmas.proofs.Lists.{Among, Among-any}
use Rattle.plain_lemmas.proofs.Tests.{and_by, bool_cases, clash, or_none}
use Rattle.action_table.specs.declared.action.Action.{Action}
use Rattle.action_table.specs.Table.{all_actions}
use Rattle.craft_state.specs.Craft.{StateFields}
use Rattle.craft_settings.specs.Ranges.{SettingsFields}
use Rattle.step_rules.specs.Legality.{is_complete, is_legal, is_over}
use Rattle.step_rules.specs.Macro.{counted}
use Rattle.step_rules.specs.Measure.{measure}
use Rattle.step_rules.specs.Run.{run_of}
use Rattle.step_rules.specs.Step.{step_of}
use Rattle.step_rules.proofs.Bounds.{IsWithin-step}
use Rattle.step_rules.proofs.Runs.{run_of-snoc}
use Rattle.admissible.proofs.Reached.{ran}
use Rattle.macro_order.specs.Order.{IsBestFrom}
use Rattle.prefix_fronts.specs.Prefix.{IsOpen, Prefix, Test, AreLimits, IsGreatestFrom, IsReachedFrom, extend, completions}
use Rattle.prefix_fronts.proofs.Best.{finishers-Among, finishers-long, first-best, no_legal_when_over, reached-at}
use Rattle.prefix_fronts.proofs.Dominance.{goes_on-by}
use Rattle.prefix_fronts.proofs.Fronts.{front-among}
use Rattle.prefix_fronts.proofs.Members.{prefix-facts, Among-all_actions}
use Rattle.front_walk.specs.Nodes.{goes_and_passes}
use Rattle.front_walk.specs.Walking.{IsSoonestCompletion}
use Rattle.best_search.specs.Looking.{TakesAtLeast, TakesOther, lets_through}
use Rattle.best_search.proofs.Backward.{HoldsBack, back}

-- a test that keeps what the fronts ask of it, and a quality of which no list from an open state has more
pub record IsSought (g : SettingsFields) (s : StateFields) (target : ℕ) (passes : Test) : Type 0 where
  pub is_open : IsOpen g s
  pub limits : AreLimits g target passes
  pub greatest : IsGreatestFrom g s target

-- ---- what a completion is

completion-reached : (g : SettingsFields) (s : StateFields) (target : ℕ) (passes : Test) (n : ℕ) (c : Prefix) → IsOpen g s → 1 ≤ n → Among c (completions g s target passes n) →
    (reached : IsReachedFrom g s target) × (length reached.actions ≡ n)
completion-reached g s target passes n c is_open some among =
    let f = finishers-Among g target _ c among in
    let here = front-among g s passes n (n - 1) f.from f.among in
    let is = prefix-facts g s is_open (n - 1) f.from here in
    let long : length (extend g f.from f.action).actions ≡ n = ap (λ (p : Prefix). length p.actions) f.is ∙ finishers-long g s target passes n (n - 1) c is_open among ∙ omega (arith, some) in (
      record {
        actions = (extend g f.from f.action).actions;
        completes = record {
          last = step_of g f.from.state f.action;
          ran = run_of-snoc g s f.from.state f.from.actions f.action is.ran f.legal;
          complete = f.full;
        };
        same = f.quality;
      },
      long,
    )

empty-by : (xs : List Prefix) → ((c : Prefix) → Among c xs → ⊥) → xs ≡ []
empty-by [] none = refl
empty-by (c ∷ rest) none = absurd (none c (inl refl))

-- nothing is found of fewer actions than the lists take
none-before : (g : SettingsFields) (s : StateFields) (target : ℕ) (passes : Test) (n : ℕ) → IsOpen g s → TakesAtLeast g s target n → (j : ℕ) → 0 < j → j < n → completions g s target passes j ≡ []
none-before g s target passes n is_open least j some below = empty-by (completions g s target passes j) (λ c among.
    let r = completion-reached g s target passes j c is_open some among in
    let more = least r.0 in
    omega (arith, more, r.1, below))

-- the first completion of the fewest actions is the best list
pub best-found : (g : SettingsFields) (s : StateFields) (target : ℕ) (passes : Test) (n : ℕ) (actions : List Action) → IsSought g s target passes → 1 ≤ n → TakesAtLeast g s target n →
    IsSoonestCompletion g s target passes n actions → IsBestFrom g s actions
best-found g s target passes n actions sought some least found =
    subst (λ (m : List Action). IsBestFrom g s m) (sym found.actions_is)
    (first-best g s target passes n found.last sought.is_open sought.limits sought.greatest (record {
      some = some;
      none_before = none-before g s target passes n sought.is_open least;
      among = found.among;
      soonest = found.soonest;
    }))

none-in : (xs : List Prefix) → xs ≡ [] → 0 < length xs → ⊥
none-in xs none some = omega (arith, ap length none, some)

-- where there is no completion of n actions, the lists take more
pub takes-more : (g : SettingsFields) (s : StateFields) (target : ℕ) (n : ℕ) → TakesAtLeast g s target n → TakesOther g s target n → TakesAtLeast g s target (n + 1)
takes-more g s target n least other reached =
    let low = least reached in
    let different = other reached in
    omega (arith, low, different)

pub none-found : (g : SettingsFields) (s : StateFields) (target : ℕ) (passes : Test) (n : ℕ) → IsSought g s target passes → completions g s target passes n ≡ [] → TakesOther g s target n
none-found g s target passes n sought none reached same =
    let r = reached-at g s target passes reached sought.is_open sought.limits sought.greatest in
    none-in (completions g s target passes (length reached.actions)) (subst (λ (k : ℕ). completions g s target passes k ≡ []) (sym same) none) r.2

-- no list takes more than a quarter of the measure
pub takes-few : (g : SettingsFields) (s : StateFields) (target : ℕ) (passes : Test) (n : ℕ) → IsSought g s target passes → IsReachedFrom g s target → TakesAtLeast g s target n → n ≤ measure s / 4
takes-few g s target passes n sought reached least =
    let r = reached-at g s target passes reached sought.is_open sought.limits sought.greatest in
    let low = least reached in
    omega (arith, low, r.1)

pub takes-some : (g : SettingsFields) (s : StateFields) (target : ℕ) (passes : Test) → IsSought g s target passes → TakesAtLeast g s target 1
takes-some g s target passes sought reached =
    (reached-at g s target passes reached sought.is_open sought.limits sought.greatest).0

-- ---- what a test lets through

pub passes-back : (g : SettingsFields) (last : StateFields) (target : ℕ) (passes : Test) → AreLimits g target passes → target ≤ counted g last → HoldsBack g last (λ j s. passes j s ≡ true)
passes-back g last target passes limits enough = record {
  ends = λ j s a live step is.
      limits.last j s a step.within live step.legal step.done (subst (λ u. target ≤ counted g u) (sym is) enough);
  next = λ j s a live step rest. limits.step j s a step.within live step.legal step.live rest;
}

two-or-more : (n : ℕ) → nat_le n 1 ≡ false → 2 ≤ n
two-or-more n h = grind arith

-- a craft that is over takes no more actions
too-long : (g : SettingsFields) (s last : StateFields) (m : List Action) → is_over g s ≡ true → run_of g s m ≡ Some last → 1 ≤ length m → ⊥
too-long g s last [] over h some = omega (arith, some)
too-long g s last (a ∷ m) over h some = no_legal_when_over g s a over (ran (is_legal g s a) (run_of g (step_of g s a) m) last h).0

opens : (g : SettingsFields) (s last : StateFields) (target : ℕ) (passes : Test) (n : ℕ) (m : List Action) → IsOpen g s → AreLimits g target passes →
    run_of g s m ≡ Some last → is_complete g last ≡ true → target ≤ counted g last → length m ≡ n → 2 ≤ n → list_any (goes_and_passes g passes (n - 1) s) all_actions ≡ true
opens g s last target passes n [] is_open limits h done enough same two = absurd (omega (arith, same, two))
opens g s last target passes n (a ∷ m) is_open limits h done enough same two =
    let parts = ran (is_legal g s a) (run_of g (step_of g s a) m) last h in
    let rest : length m ≡ n - 1 = omega (arith, same) in
    elim (bool_cases (is_over g (step_of g s a))) [
      | inl over ↦ absurd (too-long g (step_of g s a) last m over parts.1 (omega (arith, same, two)))
      | inr going ↦
          let pass : passes (length m) (step_of g s a) ≡ true = back g last (λ j t. passes j t ≡ true) (passes-back g last target passes limits enough) done (step_of g s a) m (IsWithin-step g s a is_open.within) going parts.1 in
          Among-any (goes_and_passes g passes (n - 1) s) a all_actions (Among-all_actions a)
          (and_by _ _ (goes_on-by g s a parts.0 going) (subst (λ (k : ℕ). passes k (step_of g s a) ≡ true) rest pass))
    ]

-- where the test lets no list of n actions through, there is none with the quality
pub not-through : (g : SettingsFields) (s : StateFields) (target : ℕ) (passes : Test) (n : ℕ) (answer : Bool) → IsOpen g s → AreLimits g target passes → answer ≡ lets_through g s passes n → answer ≡ false → TakesOther g s target n
not-through g s target passes n answer is_open limits is none reached same =
    let parts = or_none (nat_le n 1) (list_any (goes_and_passes g passes (n - 1) s) all_actions) (sym is ∙ none) in
    let done = reached.completes in
    clash (opens g s done.last target passes n reached.actions is_open limits done.ran done.complete (omega (arith, reached.same)) same (two-or-more n parts.0)) parts.1
