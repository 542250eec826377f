-- What is known of the greatest quality, and of the limits on the way to a macro's own.
use Rattle.std.proofs.Common.{◌≡◌, ◌∙◌, sym, ℕ, ◌≤◌, Bool, inl, inr, Option, Some, None, if◌then◌else◌, arith, subst, ap, length, length-drop, take, drop}
use Rattle.std.proofs.lemmas.List.{length-take-le, take-append-drop}
use Rattle.plain_lemmas.proofs.Tests.{bool_cases}
use Rattle.craft_settings.specs.Ranges.{SettingsFields, AreSettings}
use Rattle.step_rules.specs.Legality.{start_of, is_over}
use Rattle.step_rules.specs.Macro.{counted, IsReached}
use Rattle.step_rules.specs.Run.{run_of}
use Rattle.step_rules.proofs.Bounds.{IsWithin-start}
use Rattle.step_rules.proofs.Runs.{run_of-append, IsWithin-run}
use Rattle.admissible.proofs.Reached.{first-macro, limit-run}
use Rattle.macro_order.specs.declared.scores.Score.{Score}
use Rattle.macro_order.specs.Order.{scored, score_of, seconds_of}
use Rattle.prefix_fronts.specs.Prefix.{IsGreatest, IsReachedFrom}
use Rattle.quality_sweep.specs.Ahead.{IsGreatestQualityFrom}
use Rattle.quality_sweep.proofs.Completing.{over_nil}
use Rattle.quality_pass.specs.Answer.{IsGreatestQuality, LimitsHold}

reached-whole : (g : SettingsFields) (q : ℕ) → IsReachedFrom g (start_of g) q → IsReached g q
reached-whole g q reached = record {
  actions = reached.actions;
  last = reached.completes.last;
  ran = reached.completes.ran;
  complete = reached.completes.complete;
  same = reached.same;
}

-- the greatest quality from the start is that of the craft
pub from-start : (g : SettingsFields) (best : Option ℕ) → IsGreatestQualityFrom g (start_of g) best → IsGreatestQuality g best
from-start g None most = most
from-start g (Some q) most = (reached-whole g q most.0, most.1)

-- a reached quality is no more than the greatest
pub at_most-greatest : (g : SettingsFields) (q b : ℕ) → IsReached g q → IsGreatest g b → q ≤ b
at_most-greatest g q b r most =
    let m = r.actions in
    let whole : Score = record { quality = counted g r.last; steps = length m; seconds = seconds_of m } in
    let says : score_of g m ≡ Some whole = ap (scored g m) r.ran ∙ ap (λ (t : Bool). if t then Some whole else None) r.complete in
    subst (λ (n : ℕ). n ≤ b) r.same (most m whole says)

-- each live prefix of a complete macro has a limit of at least its quality
pub limited : (g : SettingsFields) (grain : ℕ) → AreSettings g → 1 ≤ grain → LimitsHold g grain
limited g grain settings low m whole k s some inside ran =
    let begun : 1 ≤ length (take k m) = omega (arith, length-take-le k m (omega arith)) in
    let rest : run_of g s (drop k m) ≡ Some whole.last =
    sym (run_of-append g (start_of g) s (take k m) (drop k m) ran) ∙ ap (run_of g (start_of g)) (take-append-drop k m) ∙ whole.ran
    in
    let within = IsWithin-run g (start_of g) s (take k m) (IsWithin-start g settings) ran in
    let first = first-macro g (start_of g) s (take k m) begun ran in
    elim (bool_cases (is_over g s)) [
      | inl over ↦ let none = over_nil g s whole.last (drop k m) over rest in let n = ap length none in absurd (omega (arith, n, length-drop k m))
      | inr live ↦ limit-run g grain s whole.last (drop k m) low within first live rest whole.complete
    ]
