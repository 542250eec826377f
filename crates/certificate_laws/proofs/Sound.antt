-- The macro of a certificate is the best.
use Rattle.std.proofs.Common.{◌≡◌, ◌∙◌, sym, ℕ, suc, if◌then◌else◌, ◌+◌, ◌-◌, ◌<◌, ◌≤◌, ◌⊎◌, Bool, true, false, ◌||◌, ◌==◌, inl, inr, List, [], ◌∷◌, ◌++◌, length, length-append, append_assoc, Some, None, arith, refl, ap, subst}
use Rattle.std.proofs.lemmas.Bool.Decides.{nat_tests}
use Rattle.action_table.specs.declared.action.Action.{Action}
use Rattle.craft_state.specs.Craft.{StateFields}
use Rattle.craft_settings.specs.Ranges.{SettingsFields, AreSettings}
use Rattle.step_rules.specs.Legality.{start_of, is_legal, is_over, is_complete}
use Rattle.step_rules.specs.Step.{step_of}
use Rattle.step_rules.specs.Run.{run_of}
use Rattle.step_rules.specs.Macro.{counted}
use Rattle.step_rules.proofs.Bounds.{IsWithin-step}
use Rattle.step_rules.proofs.Runs.{run_of-append}
use Rattle.macro_order.specs.declared.scores.Score.{Score}
use Rattle.action_table.specs.Table.{action_seconds}
use Rattle.macro_order.specs.Order.{seconds_of, scored, score_of, is_better, IsBest}
use Rattle.relaxed_moves.specs.Optimum.{option_le, limit_of}
use Rattle.prefix_fronts.specs.Prefix.{Prefix, empty_prefix, extend, prefixes}
use Rattle.plain_lemmas.proofs.Lists.{Among}
use Rattle.prefix_fronts.proofs.Members.{IsPrefixAt, prefix-facts, start-open, prefix-next, seconds_of-snoc}
use Rattle.prefix_fronts.proofs.Dominance.{goes_on-by}
use Rattle.prefix_fronts.proofs.Best.{score-says}
use Rattle.plain_lemmas.proofs.Tests.{clash, some_same, le_or}
use Rattle.admissible.proofs.Reached.{ran, complete_over, first-step, limit-run, within-enough, over-run}
use Rattle.certificate_text.specs.declared.verdict.Verdict.{Verdict}
use Rattle.certificate_text.specs.declared.verdict.Verdict.TheVariants.{Complete, Failed, Limited, Late, Dominated, Kept}
use Rattle.certificate_laws.specs.Claims.{Claim, Holds, IsTooLong, is_kept, score_at, next_kept, LevelsHold}
use Rattle.certificate_laws.specs.Certificate.{IsValid}
use Rattle.certificate_text.specs.Text.{Certificate}
use Rattle.prefix_fronts.proofs.Replaced.{ends_with, replaced-better}
use Rattle.certificate_laws.proofs.Winning.{Wins, below-clash, at-most, wins-quality, wins-steps, wins-through, no-more}
use Rattle.certificate_laws.proofs.Rows.{verdict-at, next-prefixes, slice_get-Among}

-- a macro that goes through a legal child of a kept prefix
record Through (claim : Claim) (k : ℕ) (p : Prefix) (a : Action) (r : List Action) (last : StateFields) : Type 0 where
  pub low : 1 ≤ claim.grain
  pub prefix : IsPrefixAt claim.g (start_of claim.g) k p
  pub legal : is_legal claim.g p.state a ≡ true
  pub ran : run_of claim.g (step_of claim.g p.state a) r ≡ Some last
  pub full : is_complete claim.g last ≡ true

-- what the next level shows of the macros through its kept prefixes
abbrev Beats : Claim → List Prefix → List Action → Type 0
Beats claim next r =
    (q : Prefix) → Among q next → (last : StateFields) → run_of claim.g q.state r ≡ Some last → is_complete claim.g last ≡ true →
    Wins claim (q.actions ++ r) (ends_with claim.g (q.actions ++ r) last)

regroup : (p : Prefix) (g : SettingsFields) (a : Action) (r : List Action) → (extend g p a).actions ++ r ≡ p.actions ++ a ∷ r
regroup p g a r = append_assoc p.actions (a ∷ []) r

over_true : (c d : Bool) → c ≡ true → (c || d) ≡ true
over_true c d h = rw h refl

over_dead : (c : Bool) (d : ℕ) → d ≡ 0 → (c || (d == 0)) ≡ true
over_dead c d h = grind (arith, nat_tests)

some-left : (g : SettingsFields) (s last : StateFields) (r : List Action) → is_over g s ≡ false → run_of g s r ≡ Some last → is_complete g last ≡ true → 1 ≤ length r
some-left g s last [] live h full =
    let e : s ≡ last = some_same s last h in
    absurd (complete_over (is_complete g s) _ (subst (λ u. is_complete g u ≡ true) (sym e) full) live)
some-left g s last (a ∷ r) live h full = omega arith

-- what is to be shown of a macro
abbrev Goal : Claim → Prefix → Action → List Action → StateFields → Type 0
Goal claim p a r last = Wins claim (p.actions ++ a ∷ r) (ends_with claim.g (p.actions ++ a ∷ r) last)

completed : (claim : Claim) (k : ℕ) (next : List Prefix) (p : Prefix) (a : Action) (r : List Action) (last : StateFields) → Through claim k p a r last →
    Holds claim next (extend claim.g p a) Complete → Goal claim p a r last
completed claim k next p a r last t h =
    let over : is_over claim.g (step_of claim.g p.state a) ≡ true = over_true _ _ h.0 in
    let nothing : r ≡ [] = no-more claim.g _ last r over t.ran in
    let same : step_of claim.g p.state a ≡ last = over-run claim.g _ last r over t.ran in
    let seconds : (extend claim.g p a).seconds ≡ seconds_of (p.actions ++ a ∷ []) = ap (λ n. n + action_seconds a) t.prefix.seconds ∙ sym (seconds_of-snoc p.actions a) in
    let score : score_at claim.g (extend claim.g p a) ≡ ends_with claim.g (p.actions ++ a ∷ []) (step_of claim.g p.state a) =
    λ i. record { quality = counted claim.g (step_of claim.g p.state a); steps = length (p.actions ++ a ∷ []); seconds = seconds i } in
    let here : Goal claim p a [] (step_of claim.g p.state a) =
    elim h.1 [ inl is ↦ inl is | inr better ↦ inr (subst (λ (b : Score). is_better claim.score claim.actions b (p.actions ++ a ∷ []) ≡ true) score better) ] in
    subst (λ (x : List Action). Goal claim p a x last) (sym nothing) (subst (λ (s : StateFields). Goal claim p a [] s) same here)

failed : (claim : Claim) (k : ℕ) (next : List Prefix) (p : Prefix) (a : Action) (r : List Action) (last : StateFields) → Through claim k p a r last →
    Holds claim next (extend claim.g p a) Failed → ⊥
failed claim k next p a r last t h =
    let over : is_over claim.g (step_of claim.g p.state a) ≡ true = over_dead (is_complete claim.g (step_of claim.g p.state a)) _ h.0 in
    let same : step_of claim.g p.state a ≡ last = over-run claim.g _ last r over t.ran in
    clash t.full (subst (λ (s : StateFields). is_complete claim.g s ≡ false) same h.1)

reaches : (claim : Claim) (k : ℕ) (p : Prefix) (a : Action) (r : List Action) (last : StateFields) → Through claim k p a r last → is_over claim.g (step_of claim.g p.state a) ≡ false →
    option_le (Some (counted claim.g last)) (limit_of claim.g claim.grain (step_of claim.g p.state a))
reaches claim k p a r last t live =
    limit-run claim.g claim.grain (step_of claim.g p.state a) last r t.low (IsWithin-step claim.g p.state a t.prefix.within) (first-step claim.g p.state a) live t.ran t.full

limited : (claim : Claim) (k : ℕ) (next : List Prefix) (p : Prefix) (a : Action) (r : List Action) (last : StateFields) → Through claim k p a r last →
    Holds claim next (extend claim.g p a) Limited → Goal claim p a r last
limited claim k next p a r last t h =
    wins-quality claim (p.actions ++ a ∷ r) last (below-clash _ _ _ h.1 (reaches claim k p a r last t h.0))

-- a macro through a state is longer where its quality can't be reached within fewer steps
longer : (claim : Claim) (k : ℕ) (p : Prefix) (a : Action) (r : List Action) (last : StateFields) → Through claim k p a r last → is_over claim.g (step_of claim.g p.state a) ≡ false →
    claim.score.quality ≤ counted claim.g last → IsTooLong claim (extend claim.g p a) → claim.score.steps < length (p.actions ++ a ∷ r)
longer claim k p a r last t live enough (inl long) =
    let left : 1 ≤ length r = some-left claim.g _ last r live t.ran t.full in
    omega (arith, length-append p.actions (a ∷ []), length-append p.actions (a ∷ r), long, left)
longer claim k p a r last t live enough (inr below) =
    elim (le_or (length r) (claim.score.steps - length (p.actions ++ a ∷ []))) [
      | inl few ↦
          let upper = within-enough claim.g claim.grain (step_of claim.g p.state a) last r (claim.score.steps - length (p.actions ++ a ∷ [])) t.low (IsWithin-step claim.g p.state a t.prefix.within) (first-step claim.g p.state a) live t.ran t.full few in
          absurd (omega (arith, below-clash _ _ _ below upper, enough))
      | inr many ↦ omega (arith, length-append p.actions (a ∷ []), length-append p.actions (a ∷ r), many)
    ]

late : (claim : Claim) (k : ℕ) (next : List Prefix) (p : Prefix) (a : Action) (r : List Action) (last : StateFields) → Through claim k p a r last →
    Holds claim next (extend claim.g p a) Late → Goal claim p a r last
late claim k next p a r last t h =
    let most : counted claim.g last ≤ claim.score.quality = at-most _ _ _ h.1 (reaches claim k p a r last t h.0) in
    elim (le_or claim.score.quality (counted claim.g last)) [
      | inl enough ↦ wins-steps claim (p.actions ++ a ∷ r) last most (longer claim k p a r last t h.0 enough h.2)
      | inr less ↦ wins-quality claim (p.actions ++ a ∷ r) last less
    ]

child : (claim : Claim) (k : ℕ) (p : Prefix) (a : Action) (r : List Action) (last : StateFields) → Through claim k p a r last → is_over claim.g (step_of claim.g p.state a) ≡ false →
    IsPrefixAt claim.g (start_of claim.g) (suc k) (extend claim.g p a)
child claim k p a r last t live = prefix-next claim.g (start_of claim.g) k p a t.prefix (goes_on-by claim.g p.state a t.legal live)

-- the score of the macro that the claim is about
score-same : (claim : Claim) (m : List Action) (last : StateFields) → score_of claim.g claim.actions ≡ Some claim.score → run_of claim.g (start_of claim.g) m ≡ Some last → is_complete claim.g last ≡ true →
    claim.actions ≡ m → claim.score ≡ ends_with claim.g m last
score-same claim m last says runs full same =
    let other : score_of claim.g m ≡ Some (ends_with claim.g m last) = ap (scored claim.g m) runs ∙ ap (λ b. if b then Some (ends_with claim.g m last) else None) full in
    some_same _ _ (sym says ∙ ap (score_of claim.g) same ∙ other)

outdone : (claim : Claim) (k : ℕ) (next : List Prefix) (p : Prefix) (a : Action) (r : List Action) (last : StateFields) (place : ℕ) → Through claim k p a r last → score_of claim.g claim.actions ≡ Some claim.score →
    ((q : Prefix) → Among q next → IsPrefixAt claim.g (start_of claim.g) (suc k) q) → Beats claim next r →
    Holds claim next (extend claim.g p a) (Dominated place) → Goal claim p a r last
outdone claim k next p a r last place t says facts beats h =
    let q = h.1.0 in
    let here : Among q next = slice_get-Among next place q h.1.1 in
    let fq = facts q here in
    let other = replaced-better claim.g (start_of claim.g) (suc k) (extend claim.g p a) q r last (child claim k p a r last t h.0) fq h.1.2 t.ran t.full in
    let ran_whole : run_of claim.g (start_of claim.g) (q.actions ++ r) ≡ Some other.end = run_of-append claim.g (start_of claim.g) q.state q.actions r fq.ran ∙ other.ran in
    let wins = beats q here other.end other.ran other.full in
    let group : (extend claim.g p a).actions ++ r ≡ p.actions ++ a ∷ r = regroup p claim.g a r in
    subst (λ (n : List Action). Wins claim n (ends_with claim.g n last)) group
    (wins-through claim (q.actions ++ r) ((extend claim.g p a).actions ++ r) (ends_with claim.g (q.actions ++ r) other.end) (ends_with claim.g ((extend claim.g p a).actions ++ r) last) wins other.better
    (score-same claim (q.actions ++ r) other.end says ran_whole other.full))

kept-on : (claim : Claim) (k : ℕ) (next : List Prefix) (p : Prefix) (a : Action) (r : List Action) (last : StateFields) → Through claim k p a r last → Beats claim next r →
    Among (extend claim.g p a) next → Goal claim p a r last
kept-on claim k next p a r last t beats here =
    let wins = beats (extend claim.g p a) here last t.ran t.full in
    subst (λ (n : List Action). Wins claim n (ends_with claim.g n last)) (regroup p claim.g a r) wins

by-verdict : (claim : Claim) (k : ℕ) (next : List Prefix) (p : Prefix) (a : Action) (r : List Action) (last : StateFields) (v : Verdict) → Through claim k p a r last → score_of claim.g claim.actions ≡ Some claim.score →
    ((q : Prefix) → Among q next → IsPrefixAt claim.g (start_of claim.g) (suc k) q) → Beats claim next r →
    Holds claim next (extend claim.g p a) v → (is_kept v ≡ true → Among (extend claim.g p a) next) → Goal claim p a r last
by-verdict claim k next p a r last Complete t says facts beats h listed = completed claim k next p a r last t h
by-verdict claim k next p a r last Failed t says facts beats h listed = absurd (failed claim k next p a r last t h)
by-verdict claim k next p a r last Limited t says facts beats h listed = limited claim k next p a r last t h
by-verdict claim k next p a r last Late t says facts beats h listed = late claim k next p a r last t h
by-verdict claim k next p a r last (Dominated place) t says facts beats h listed = outdone claim k next p a r last place t says facts beats h
by-verdict claim k next p a r last Kept t says facts beats h listed = kept-on claim k next p a r last t beats (listed refl)

-- the claimed macro is each macro through a kept prefix of a level, or better
pub level-wins : (claim : Claim) (k : ℕ) (kept : List Prefix) (levels : List (List (List Verdict))) → 1 ≤ claim.grain → score_of claim.g claim.actions ≡ Some claim.score →
    ((p : Prefix) → Among p kept → IsPrefixAt claim.g (start_of claim.g) k p) → LevelsHold claim kept levels → (r : List Action) → Beats claim kept r
level-wins claim k kept [] low says facts hold r p here last runs full = absurd (subst (λ (ps : List Prefix). Among p ps) hold here)
level-wins claim k kept (rows ∷ levels) low says facts hold [] p here last runs full =
    let left : 1 ≤ 0 = some-left claim.g p.state last [] (facts p here).live runs full in
    absurd (omega (arith, left))
level-wins claim k kept (rows ∷ levels) low says facts hold (a ∷ r) p here last runs full =
    let parts = ran (is_legal claim.g p.state a) (run_of claim.g (step_of claim.g p.state a) r) last runs in
    let next = next_kept claim.g kept rows in
    let more : (q : Prefix) → Among q next → IsPrefixAt claim.g (start_of claim.g) (suc k) q = next-prefixes claim k next kept rows facts hold.1 in
    let found = verdict-at claim kept rows p a hold.1 here parts.0 in
    let t : Through claim k p a r last = record { low = low; prefix = facts p here; legal = parts.0; ran = parts.1; full = full } in
    by-verdict claim k next p a r last found.verdict t says more (level-wins claim (suc k) next levels low says more hold.2 r) found.holds found.listed

start-facts : (g : SettingsFields) → AreSettings g → (p : Prefix) → Among p (empty_prefix g ∷ []) → IsPrefixAt g (start_of g) 0 p
unfolding prefixes
start-facts g settings p here = prefix-facts g (start_of g) (start-open g settings) 0 p here

score-is : (s : Score) (q n t : ℕ) → s.quality ≡ q → s.steps ≡ n → s.seconds ≡ t → record { quality = q; steps = n; seconds = t } ≡ s
score-is s q n t a b c = λ i. record { quality = sym a i; steps = sym b i; seconds = sym c i }

-- the macro of a valid certificate is the best
pub certificate-best : (g : SettingsFields) (c : Certificate) → AreSettings g → IsValid g c → IsBest g c.actions
certificate-best g c settings valid =
    let claim : Claim = record { g = g; grain = c.grain; actions = c.actions; score = valid.score } in
    record {
      score = valid.score;
      completes = valid.completes;
      best = λ n b scores.
          let says = score-says g n _ b scores in
          let wins = level-wins claim 0 (empty_prefix g ∷ []) c.levels valid.range.low valid.completes (start-facts g settings) valid.hold n (empty_prefix g) (inl refl) says.last says.ran says.full in
          subst (λ (s : Score). (c.actions ≡ n) ⊎ (is_better valid.score c.actions s n ≡ true)) (score-is b _ _ _ says.quality says.steps says.seconds) wins;
    }
