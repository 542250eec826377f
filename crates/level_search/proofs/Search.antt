-- What is known of the best macro.
use Rattle.std.proofs.Common.{◌≡◌, ◌∙◌, sym, refl, ℕ, ◌-◌, ◌/◌, ◌≤◌, Bool, true, ◌||◌, ◌&&◌, ◌==◌, nat_lt, inl, inr, List, Some, None, length, length-drop, take, drop, arith, ap, subst, if◌then◌else◌}
use Rattle.std.proofs.lemmas.Bool.Decides.{nat_tests}
use Rattle.std.proofs.lemmas.List.{take-append-drop}
use Rattle.plain_lemmas.proofs.Lists.{Among, Among-filter, filter-Among}
use Rattle.plain_lemmas.proofs.Places.{Among-Contains, Contains-Among}
use Rattle.plain_lemmas.proofs.Tests.{and_by, some_same}
use Rattle.action_table.specs.declared.action.Action.{Action}
use Rattle.craft_state.specs.Craft.{StateFields}
use Rattle.craft_settings.specs.Ranges.{SettingsFields, AreSettings}
use Rattle.step_rules.specs.Legality.{start_of}
use Rattle.step_rules.specs.Macro.{counted, Completes, IsReached}
use Rattle.step_rules.specs.Measure.{measure}
use Rattle.step_rules.specs.Run.{run_of}
use Rattle.step_rules.proofs.Runs.{run_of-append}
use Rattle.macro_order.specs.declared.scores.Score.{Score}
use Rattle.macro_order.specs.Order.{precedes, scored, score_of, seconds_of, IsBest}
use Rattle.prefix_fronts.specs.Prefix.{Prefix, Test, front, prefixes, undominated, IsGreatest, IsReachedFrom}
use Rattle.prefix_fronts.proofs.Best.{reached-at, reached-start, score-says}
use Rattle.prefix_fronts.proofs.Dominated.{best-survives}
use Rattle.prefix_fronts.proofs.Members.{prefix-facts, start-open}
use Rattle.best_search.specs.Looking.{TakesAtLeast}
use Rattle.best_search.proofs.Backward.{back}
use Rattle.best_search.proofs.Taking.{passes-back}
use Rattle.level_search.specs.Answer.{HasQuality, Survives}
use Rattle.level_search.specs.Reaching.{bounds_reach}
use Rattle.level_search.proofs.Reached.{are_limits}

pub completes-best : (g : SettingsFields) (m : List Action) → IsBest g m → Completes g (start_of g) m
completes-best g m best =
    let says = score-says g m (run_of g (start_of g) m) best.score best.completes in
    record { last = says.last; ran = says.ran; complete = says.full }

-- what is better and has no more quality has as much, and no more steps
better-quality : (q q' s s' : ℕ) (r : Bool) → (nat_lt q' q || (q == q' && (nat_lt s s' || (s == s' && r)))) ≡ true → q ≤ q' → q ≡ q'
better-quality q q' s s' r h less = grind (arith, nat_tests)

better-steps : (q q' s s' : ℕ) (r : Bool) → (nat_lt q' q || (q == q' && (nat_lt s s' || (s == s' && r)))) ≡ true → q ≤ q' → s ≤ s'
better-steps q q' s s' r h less = grind (arith, nat_tests)

-- beside another with no less quality
beside : (g : SettingsFields) (m n : List Action) (b : Score) → (best : IsBest g m) → score_of g n ≡ Some b → best.score.quality ≤ b.quality →
    (best.score.quality ≡ b.quality) × (best.score.steps ≤ b.steps)
beside g m n b best scores less = elim (best.best n b scores) [
  | inl same ↦
      let e : best.score ≡ b = some_same best.score b (sym best.completes ∙ ap (score_of g) same ∙ scores) in
      (ap (λ (s : Score). s.quality) e, omega (arith, ap (λ (s : Score). s.steps) e))
  | inr better ↦
      let a = best.score in
      let r = nat_lt a.seconds b.seconds || (a.seconds == b.seconds && precedes m n) in
      (better-quality a.quality b.quality a.steps b.steps r better less, better-steps a.quality b.quality a.steps b.steps r better less)
]

score-reached : (g : SettingsFields) (n : List Action) (done : Completes g (start_of g) n) →
    score_of g n ≡ Some (record { quality = counted g done.last; steps = length n; seconds = seconds_of n })
score-reached g n done =
    ap (scored g n) done.ran ∙ ap (λ (b : Bool). if b then Some (record { quality = counted g done.last; steps = length n; seconds = seconds_of n }) else None) done.complete

beside-reached : (g : SettingsFields) (target : ℕ) (m : List Action) → (best : IsBest g m) → IsGreatest g target → (reached : IsReachedFrom g (start_of g) target) →
    (best.score.quality ≡ target) × (best.score.steps ≤ length reached.actions)
beside-reached g target m best greatest reached =
    let done = reached.completes in
    let most : best.score.quality ≤ target = greatest m best.score best.completes in
    let other = beside g m reached.actions _ best (score-reached g reached.actions done) (omega (arith, most, reached.same)) in
    (other.0 ∙ reached.same, other.1)

pub quality-best : (g : SettingsFields) (target : ℕ) (m : List Action) → IsBest g m → IsGreatest g target → IsReached g target → HasQuality g m target
quality-best g target m best greatest reached = (best.score, best.completes, (beside-reached g target m best greatest (reached-start g target reached)).0)

pub shortest-best : (g : SettingsFields) (target : ℕ) (m : List Action) → IsBest g m → IsGreatest g target → TakesAtLeast g (start_of g) target (length m)
shortest-best g target m best greatest reached =
    let says = score-says g m (run_of g (start_of g) m) best.score best.completes in
    let other = beside-reached g target m best greatest reached in
    omega (arith, says.steps, other.1)

-- the best macro itself has the quality
reached-best : (g : SettingsFields) (target : ℕ) (m : List Action) → IsBest g m → IsGreatest g target → IsReached g target →
    (reached : IsReachedFrom g (start_of g) target) × (reached.actions ≡ m)
reached-best g target m best greatest reached =
    let says = score-says g m (run_of g (start_of g) m) best.score best.completes in
    let same = (beside-reached g target m best greatest (reached-start g target reached)).0 in
    (record { actions = m; completes = record { last = says.last; ran = says.ran; complete = says.full }; same = sym says.quality ∙ same }, refl)

-- it has an action, and not too many
pub length-best : (g : SettingsFields) (grain target : ℕ) (m : List Action) → AreSettings g → 1 ≤ grain → IsBest g m → IsGreatest g target → IsReached g target →
    (1 ≤ length m) × (length m ≤ measure (start_of g) / 4)
length-best g grain target m settings low best greatest reached =
    let own = reached-best g target m best greatest reached in
    let r = reached-at g (start_of g) target (bounds_reach g grain target) own.0 (start-open g settings) (are_limits g grain target low) greatest in
    let long = ap length own.1 in
    (omega (arith, r.0, long), omega (arith, r.1, long))

-- each state on the way passes
passes-before : (g : SettingsFields) (grain target : ℕ) (m : List Action) (k : ℕ) (q : Prefix) → AreSettings g → 1 ≤ grain → (done : Completes g (start_of g) m) → target ≤ counted g done.last →
    Among q (prefixes g (start_of g) k) → take k m ≡ q.actions → bounds_reach g grain target (length m - k) q.state ≡ true
passes-before g grain target m k q settings low done enough here cut =
    let facts = prefix-facts g (start_of g) (start-open g settings) k q here in
    let begun : run_of g (start_of g) (take k m) ≡ Some q.state = ap (run_of g (start_of g)) cut ∙ facts.ran in
    let rest : run_of g q.state (drop k m) ≡ Some done.last =
    sym (run_of-append g (start_of g) q.state (take k m) (drop k m) begun) ∙ ap (run_of g (start_of g)) (take-append-drop k m) ∙ done.ran
    in
    subst (λ (n : ℕ). bounds_reach g grain target n q.state ≡ true) (length-drop k m)
    (back g done.last (λ j s. bounds_reach g grain target j s ≡ true) (passes-back g done.last target (bounds_reach g grain target) (are_limits g grain target low) enough) done.complete
    q.state (drop k m) facts.within facts.live rest)

in-front : (g : SettingsFields) (s : StateFields) (passes : Test) (n k : ℕ) (q : Prefix) → Among q (prefixes g s k) → undominated (prefixes g s k) q ≡ true → passes (n - k) q.state ≡ true →
    Among q (front g s passes n k)
unfolding front
in-front g s passes n k q here free pass =
    Among-filter (λ p. passes (n - k) p.state && undominated (prefixes g s k) p) q (prefixes g s k) here (and_by _ _ pass free)

pub inside-best : (g : SettingsFields) (grain target : ℕ) (m : List Action) → AreSettings g → 1 ≤ grain → IsBest g m → HasQuality g m target → Survives g grain target m
inside-best g grain target m settings low best quality k below =
    let kept = best-survives g (start_of g) m k (start-open g settings) best below in
    let both = filter-Among (undominated (prefixes g (start_of g) k)) kept.0 (prefixes g (start_of g) k) (Contains-Among _ kept.0 kept.1) in
    let says = score-says g m (run_of g (start_of g) m) quality.0 quality.1 in
    let done : Completes g (start_of g) m = record { last = says.last; ran = says.ran; complete = says.full } in
    let pass = passes-before g grain target m k kept.0 settings low done (omega (arith, says.quality, quality.2)) both.0 kept.2 in
    (kept.0, Among-Contains _ kept.0 (in-front g (start_of g) (bounds_reach g grain target) (length m) k kept.0 both.0 both.1 pass), kept.2)
