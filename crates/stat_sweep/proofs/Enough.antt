-- Base qualities that are enough, and those with which nothing completes.
use Rattle.std.proofs.Common.{◌≡◌, ◌∙◌, sym, ◌≤◌, ℕ, Bool, true, false, arith, refl, ap, List, Some, None, ◌==◌, ◌↔◌, min, IsTrue, Result, Ok, Err, IfOk}
use Rattle.std.proofs.lemmas.Bool.Decides.{nat_tests}
use Rattle.action_table.specs.declared.action.Action.{Action}
use Rattle.craft_settings.specs.Ranges.{SettingsFields}
use Rattle.craft_settings.specs.Rules.{cap_of}
use Rattle.step_rules.specs.Legality.{start_of}
use Rattle.step_rules.specs.Run.{run_of}
use Rattle.macro_order.specs.Order.{score_of, IsBest, NothingCompletes}
use Rattle.stat_sweep.specs.declared.TheConstants.{MOST_BASE}
use Rattle.stat_sweep.specs.declared.halving.Tried.{Tried}
use Rattle.stat_sweep.specs.declared.swept.Swept.{Swept}
use Rattle.stat_sweep.specs.declared.swept.Swept.TheVariants.{Nothing, Short, Least}
use Rattle.stat_sweep.specs.Bases.{with_base, IsEnough}
use Rattle.stat_sweep.specs.Halving.{is_full, IsTried}
use Rattle.stat_sweep.specs.Sweeping.{IsSwept, FallsShort, is_nothing, is_short, is_least}
use Rattle.stat_sweep.proofs.Bases.{with_quality, ends_alike, ends_no_less}
use Rattle.stat_sweep.proofs.Scores.{score_of-complete, scored-ends, best-full, full-reached}

still_capped : (cap q r : ℕ) → min cap q ≡ cap → q ≤ r → min cap r ≡ cap
still_capped cap q r full more = omega arith

pub enough-more : (g : SettingsFields) (less more : ℕ) → less ≤ more → IsEnough g less → IsEnough g more
enough-more g less more h enough =
    let ends = ends_no_less g less more enough.actions enough.last h enough.ran in
    record {
      actions = enough.actions;
      last = with_quality enough.last ends.quality;
      ran = ends.ends;
      complete = enough.complete;
      same = still_capped (cap_of g) enough.last.quality ends.quality enough.same ends.more;
    }

-- where nothing completes, nothing does with another base quality
pub nothing-base : (g : SettingsFields) (base other : ℕ) → NothingCompletes (with_base g base) → NothingCompletes (with_base g other)
nothing-base g base other nothing m =
    elim (score_of (with_base g other) m) as (λ o. score_of (with_base g other) m ≡ o → score_of (with_base g other) m ≡ None) [
      | None ↦ λ is. is
      | Some score ↦ λ is.
          let own = scored-ends (with_base g other) m (run_of (with_base g other) (start_of g) m) score is in
          let alike = ends_alike g other base m own.last own.ran in
          let completes = score_of-complete (with_base g base) m (with_quality own.last alike.quality) alike.ends own.full in
          absurd (cc (completes, nothing m))
    ] refl

pub best-something : (g : SettingsFields) (base : ℕ) (m : List Action) → IsBest (with_base g base) m → NothingCompletes g → ⊥
best-something g base m best nothing = cc (best.completes, nothing-base g g.base_quality base nothing m)

pub enough-something : (g : SettingsFields) (base : ℕ) → IsEnough g base → NothingCompletes g → ⊥
enough-something g base enough nothing =
    cc (score_of-complete (with_base g base) enough.actions enough.last enough.ran enough.complete, nothing-base g g.base_quality base nothing enough.actions)

same_number : (m n : ℕ) → (m == n) ≡ true → m ≡ n
same_number m n h = grind (arith, nat_tests)

equal_test : (m n : ℕ) → m ≡ n → (m == n) ≡ true
equal_test m n h = grind (arith, nat_tests)

-- a base quality is enough exactly where its best macro has all the quality that counts
pub enough-best : (g : SettingsFields) (base : ℕ) (m : List Action) → IsBest (with_base g base) m →
    IsTrue (is_full (with_base g base) (score_of (with_base g base) m)) ↔ IsEnough g base
enough-best g base m best =
    let test : is_full (with_base g base) (score_of (with_base g base) m) ≡ (best.score.quality == cap_of g) = ap (is_full (with_base g base)) best.completes in (
      λ full. full-reached (with_base g base) m best.score (cap_of g) best.completes (same_number _ _ (sym test ∙ full)),
      λ enough. test ∙ equal_test _ _ (best-full (with_base g base) m best enough),
    )

-- the best macro that was found, with the test of its quality
pub best-tried : (g : SettingsFields) (base : ℕ) (m : List Action) (full : Bool) → IsBest (with_base g base) m →
    full ≡ is_full (with_base g base) (score_of (with_base g base) m) → IsTried g base (record { plan = m; is_enough = full })
best-tried g base m full best is =
    let exact = enough-best g base m best in
    record { best = best; enough = (λ h. exact.0 (sym is ∙ h), λ enough. is ∙ exact.1 enough) }

pub short-swept : (g : SettingsFields) (tried : Tried) → IsTried g MOST_BASE tried → tried.is_enough ≡ false → IsSwept g (Short tried.plan)
short-swept g tried is short = ((best-something g MOST_BASE tried.plan is.best, λ enough. cc (is.enough.1 enough, short)), is.best)

-- ---- each answer comes exactly where it is due

pub nothing-exact : (g : SettingsFields) (s : Swept) → IsSwept g s → IsTrue (is_nothing s) ↔ NothingCompletes g
nothing-exact g Nothing h = (λ _. h, λ _. refl)
nothing-exact g (Short at) h = (λ e. absurd (cc e), λ nothing. absurd (h.0.0 nothing))
nothing-exact g (Least base at below) h = (λ e. absurd (cc e), λ nothing. absurd (enough-something g base h.0.enough nothing))

pub short-exact : (g : SettingsFields) (s : Swept) → IsSwept g s → IsTrue (is_short s) ↔ FallsShort g
short-exact g Nothing h = (λ e. absurd (cc e), λ falls. absurd (falls.0 h))
short-exact g (Short at) h = (λ _. h.0, λ _. refl)
short-exact g (Least base at below) h = (λ e. absurd (cc e), λ falls. absurd (falls.1 (enough-more g base MOST_BASE h.0.high h.0.enough)))

pub least-exact : (g : SettingsFields) (s : Swept) → IsSwept g s → IsTrue (is_least s) ↔ IsEnough g MOST_BASE
least-exact g Nothing h = (λ e. absurd (cc e), λ enough. absurd (enough-something g MOST_BASE enough h))
least-exact g (Short at) h = (λ e. absurd (cc e), λ enough. absurd (h.0.1 enough))
least-exact g (Least base at below) h = (λ _. enough-more g base MOST_BASE h.0.high h.0.enough, λ _. refl)

pub IfOk-more : {A E : Type 0} (r : Result A E) (P Q : A → Type 0) → IfOk r P → ((x : A) → P x → Q x) → IfOk r Q
IfOk-more (Ok x) P Q h more = more x h
IfOk-more (Err e) P Q h more = tt
