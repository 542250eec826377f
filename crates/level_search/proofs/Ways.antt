-- The way of a complete macro.
use Rattle.std.proofs.Common.{◌≡◌, ◌∙◌, sym, ℕ, set, inl, inr, ◌⊎◌, ◌+◌, ◌-◌, ◌<◌, ◌≤◌, true, false, List, [], ◌∷◌, length, length-drop, get_or, take, drop, Some, None, arith, refl, subst, if◌then◌else◌}
use Rattle.std.proofs.lemmas.List.{take-append-drop, length-take-le}
use Rattle.action_table.specs.declared.action.Action.{Action}
use Rattle.craft_state.specs.Craft.{StateFields}
use Rattle.craft_settings.specs.Ranges.{SettingsFields, AreSettings}
use Rattle.step_rules.specs.Legality.{start_of, is_legal, is_over}
use Rattle.step_rules.specs.Macro.{Completes, counted}
use Rattle.step_rules.specs.Run.{run_of}
use Rattle.step_rules.specs.Step.{step_of}
use Rattle.step_rules.proofs.Bounds.{IsWithin-start}
use Rattle.step_rules.proofs.LegalFacts.{legal_facts}
use Rattle.step_rules.proofs.Runs.{run_of-append, run_of-take, IsWithin-run, next_legal}
use Rattle.relaxed_moves.specs.Optimum.{option_le, within_of}
use Rattle.admissible.proofs.Reached.{first-macro, within-run}
use Rattle.level_search.specs.declared.searcher.Searcher.{Searcher}
use Rattle.level_search.specs.Searching.{HasSeen, HasSeenWay, StillSearches}
use Rattle.level_search.specs.Answer.{AreWithinLimits}

-- a state from which an action runs is live
live-run : (g : SettingsFields) (s t : StateFields) (m : List Action) → 1 ≤ length m → run_of g s m ≡ Some t → is_over g s ≡ false
live-run g s t [] some ran = absurd (omega (arith, some))
live-run g s t (action ∷ rest) some ran =
    elim (is_legal g s action) as (λ b. is_legal g s action ≡ b → (if b then run_of g (step_of g s action) rest else None) ≡ Some t → is_over g s ≡ false) [
      | true ↦ λ legal h. (legal_facts g s action legal).live
      | false ↦ λ legal h. absurd (cc)
    ] refl ran

pub within-limits : (g : SettingsFields) (grain : ℕ) → AreSettings g → 1 ≤ grain → AreWithinLimits g grain
within-limits g grain settings low m k s whole from below ran =
    let rest : run_of g s (drop k m) ≡ Some whole.last =
    sym (run_of-append g (start_of g) s (take k m) (drop k m) ran) ∙ subst (λ (ms : List Action). run_of g (start_of g) ms ≡ Some whole.last) (sym (take-append-drop k m)) whole.ran in
    let left : length (drop k m) ≡ length m - k = length-drop k m in
    let some : 1 ≤ length (take k m) = omega (arith, length-take-le k m (omega arith), from) in
    subst (λ (n : ℕ). option_le (Some (counted g whole.last)) (within_of g grain s n)) left
    (within-run g grain s whole.last (drop k m) low (IsWithin-run g (start_of g) s (take k m) (IsWithin-start g settings) ran)
    (first-macro g (start_of g) s (take k m) some ran) (live-run g s whole.last (drop k m) (omega (arith, left, below)) rest) rest whole.complete)

-- the state after one action more
pub next_ran : (g : SettingsFields) (state next : StateFields) (actions : List Action) (k : ℕ) (d : Action) → 1 ≤ k → k < length actions → Completes g (start_of g) actions →
    run_of g (start_of g) (take (k - 1) actions) ≡ Some state → next ≡ step_of g state (get_or actions (k - 1) d) → run_of g (start_of g) (take k actions) ≡ Some next
next_ran g state next actions k d some below completes ran is =
    let inside : k - 1 < length actions = omega (arith, below) in
    let up : k - 1 + 1 ≡ k = omega (arith, some) in
    let legal = next_legal g state actions (k - 1) d inside completes ran in
    subst (λ (j : ℕ). run_of g (start_of g) (take j actions) ≡ Some next) up (rw is (run_of-take g (start_of g) state actions (k - 1) d inside ran legal))

up_to : (j k : ℕ) → j < k + 1 → (j < k) ⊎ (j ≡ k)
up_to j k h = grind arith

same_state : (s t : StateFields) → Some s ≡ Some t → s ≡ t
same_state s t h = cc

still-seen : (g : SettingsFields) (grain left : ℕ) (s : StateFields) (before after : Searcher) → StillSearches before after → HasSeen g grain left s before → HasSeen g grain left s after
still-seen g grain left s before after still seen = record {
  quality = still.quality.seen _ seen.quality;
  steps = λ few. still.steps.seen _ (seen.steps few);
}

-- the bounds of one state more are seen
pub seen_more : (g : SettingsFields) (grain : ℕ) (actions : List Action) (k : ℕ) (next : StateFields) (before after : Searcher) → run_of g (start_of g) (take k actions) ≡ Some next → StillSearches before after →
    HasSeen g grain (length actions - k) next after →
    ((j : ℕ) (s : StateFields) → 1 ≤ j → j < k → run_of g (start_of g) (take j actions) ≡ Some s → HasSeen g grain (length actions - j) s before) →
    (j : ℕ) (s : StateFields) → 1 ≤ j → j < k + 1 → run_of g (start_of g) (take j actions) ≡ Some s → HasSeen g grain (length actions - j) s after
seen_more g grain actions k next before after ran still seen each j s from below run =
    elim (up_to j k below) [
      | inl less ↦ still-seen g grain (length actions - j) s before after still (each j s from less run)
      | inr same ↦
          let is : next ≡ s = same_state next s (sym ran ∙ subst (λ (i : ℕ). run_of g (start_of g) (take i actions) ≡ Some s) same run) in
          subst (λ (i : ℕ). HasSeen g grain (length actions - i) s after) (sym same) (subst (λ (z : StateFields). HasSeen g grain (length actions - k) z after) is seen)
    ]

-- the first of the searchers has seen them
pub seen-first : (g : SettingsFields) (grain : ℕ) (m : List Action) (searchers : List Searcher) (first d : Searcher) → 0 < length searchers → HasSeenWay g grain m first → HasSeenWay g grain m (get_or (set searchers 0 first) 0 d)
seen-first g grain m [] first d some seen = absurd (omega (arith, some))
seen-first g grain m (s ∷ rest) first d some seen = seen
