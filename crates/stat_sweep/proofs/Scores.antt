-- What the score of a list says.
use Rattle.std.proofs.Common.{◌≡◌, ◌∙◌, sym, ◌≤◌, ℕ, Bool, true, false, arith, refl, ap, if◌then◌else◌, List, Option, Some, None, ◌==◌, ◌&&◌, ◌||◌, nat_lt, length, inl, inr}
use Rattle.std.proofs.lemmas.Bool.Decides.{nat_tests}
use Rattle.action_table.specs.declared.action.Action.{Action}
use Rattle.craft_state.specs.Craft.{StateFields}
use Rattle.craft_settings.specs.Ranges.{SettingsFields}
use Rattle.craft_settings.specs.Rules.{cap_of}
use Rattle.step_rules.specs.Legality.{start_of, is_complete}
use Rattle.step_rules.specs.Run.{run_of}
use Rattle.step_rules.specs.Macro.{counted, IsReached}
use Rattle.macro_order.specs.declared.scores.Score.{Score}
use Rattle.macro_order.specs.Order.{seconds_of, scored, score_of, is_better, IsBest}

-- the score of a list that ends in this complete state
abbrev pub score_at : SettingsFields → List Action → StateFields → Score
score_at g m last = record { quality = counted g last; steps = length m; seconds = seconds_of m }

pub score_of-complete : (g : SettingsFields) (m : List Action) (last : StateFields) →
    run_of g (start_of g) m ≡ Some last → is_complete g last ≡ true → score_of g m ≡ Some (score_at g m last)
score_of-complete g m last ran full = ap (scored g m) ran ∙ ap (λ b. if b then Some (score_at g m last) else None) full

-- a list with a score ends in a complete state
pub record IsScored (g : SettingsFields) (m : List Action) (o : Option StateFields) (score : Score) : Type 0 where
  pub last : StateFields
  pub ran : o ≡ Some last
  pub full : is_complete g last ≡ true
  pub is : score ≡ score_at g m last

pub scored-ends : (g : SettingsFields) (m : List Action) (o : Option StateFields) (score : Score) → scored g m o ≡ Some score → IsScored g m o score
scored-ends g m None score h = absurd (cc h)
scored-ends g m (Some last) score h =
    elim (is_complete g last) as (λ b. is_complete g last ≡ b → IsScored g m (Some last) score) [
      | true ↦ λ full.
          let is : Some (score_at g m last) ≡ Some score = sym (ap (λ b. if b then Some (score_at g m last) else None) full) ∙ h in
          record { last = last; ran = refl; full = full; is = cc is }
      | false ↦ λ part.
          let none : scored g m (Some last) ≡ None = ap (λ b. if b then Some (score_at g m last) else None) part in
          absurd (cc (none, h))
    ] refl

more_or_same : (x y : ℕ) (p : Bool) → (nat_lt y x || (x == y && p)) ≡ true → y ≤ x
more_or_same x y p h = grind (arith, nat_tests)

better-quality : (a b : Score) (m n : List Action) → is_better a m b n ≡ true → b.quality ≤ a.quality
better-quality a b m n h = more_or_same a.quality b.quality _ h

-- the best macro has all the quality that counts, where some macro has it
pub best-full : (g : SettingsFields) (m : List Action) (best : IsBest g m) → IsReached g (cap_of g) → best.score.quality ≡ cap_of g
best-full g m best reached =
    let own = scored-ends g m (run_of g (start_of g) m) best.score best.completes in
    let score = score_at g reached.actions reached.last in
    let completes = score_of-complete g reached.actions reached.last reached.ran reached.complete in
    let quality : best.score.quality ≡ counted g own.last = ap (λ (s : Score). s.quality) own.is in
    elim (best.best reached.actions score completes) [
      | inl same ↦
          let equal : Some best.score ≡ Some score = sym best.completes ∙ ap (score_of g) same ∙ completes in
          let scores : best.score ≡ score = cc equal in
          ap (λ (s : Score). s.quality) scores ∙ reached.same
      | inr better ↦ omega (arith, better-quality best.score score m reached.actions better, quality, reached.same)
    ]

-- and only there
pub full-reached : (g : SettingsFields) (m : List Action) (score : Score) (cap : ℕ) → score_of g m ≡ Some score → score.quality ≡ cap → IsReached g cap
full-reached g m score cap completes full =
    let own = scored-ends g m (run_of g (start_of g) m) score completes in
    record { actions = m; last = own.last; ran = own.ran; complete = own.full; same = sym (ap (λ (s : Score). s.quality) own.is) ∙ full }
