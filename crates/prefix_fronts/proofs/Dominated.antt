-- A dominated prefix is no prefix of the best list from the state.
use Rattle.std.proofs.Common.{◌≡◌, ◌∙◌, sym, ℕ, zero, suc, ◌+◌, ◌-◌, ◌<◌, ◌≤◌, Bool, true, not, ◌&&◌, ◌||◌, ◌==◌, nat_lt, inl, inr, List, [], ◌∷◌, ◌++◌, length, length-append, take, drop, Some, None, arith, refl, ap, subst, if◌then◌else◌}
use Rattle.plain_lemmas.proofs.Places.{Contains-Among, Among-Contains}
use Rattle.plain_lemmas.proofs.Tests.{bool_cases, and_both}
use Rattle.std.specs.List.{list_any}
use Rattle.std.proofs.lemmas.List.{take-append-drop, take-append-le, take_all}
use Rattle.std.proofs.lemmas.Bool.Decides.{nat_tests}
use Rattle.action_table.specs.declared.action.Action.{Action}
use Rattle.action_table.specs.Table.{number_of}
use Rattle.craft_state.specs.Craft.{StateFields}
use Rattle.craft_state.specs.NotLess.{IsNotLess}
use Rattle.craft_settings.specs.Ranges.{SettingsFields}
use Rattle.step_rules.specs.Legality.{is_legal, is_over, is_complete}
use Rattle.step_rules.specs.Step.{step_of}
use Rattle.step_rules.specs.Run.{run_of}
use Rattle.step_rules.specs.Macro.{counted}
use Rattle.step_rules.proofs.Runs.{run_of-append}
use Rattle.dominance.proofs.Children.{is_legal-not_less, IsNotLess-step}
use Rattle.dominance.proofs.Finishing.{finishes-not_less}
use Rattle.macro_order.specs.declared.scores.Score.{Score}
use Rattle.macro_order.specs.Order.{seconds_of, scored, score_from, is_better, precedes, IsBestFrom}
use Rattle.macro_order.proofs.Continuation.{seconds_of-append}
use Rattle.macro_order.proofs.Total.{better_not}
use Rattle.prefix_fronts.specs.Prefix.{IsOpen, Prefix, empty_from, extend, goes_on, children, prefixes, dominates, DominatesAt, undominated, survivors, IsListOf}
use Rattle.plain_lemmas.proofs.Lists.{Among, Among-filter, flat_map-Among, any-Among}
use Rattle.prefix_fronts.proofs.Dominance.{IsNotLess-dominates, child_dominated}
use Rattle.prefix_fronts.proofs.Members.{prefix-facts, Among-next, children-Among}
use Rattle.prefix_fronts.proofs.Sorted.{step_or}
use Rattle.prefix_fronts.proofs.Best.{no_legal_when_over, score-says, counted_le, better_quality, better_sooner, at_most, run-ends, Among-first}

-- the same child of the prefix that dominates
pub same-child : (g : SettingsFields) (s : StateFields) (k : ℕ) (p q : Prefix) (action : Action) → IsOpen g s → DominatesAt g s k p q → goes_on g q.state action ≡ true →
    DominatesAt g s (suc k) (extend g p action) (extend g q action)
same-child g s k p q action is_open h go =
    let mp = Contains-Among _ p h.first in
    let mq = Contains-Among _ q h.second in
    let same : length p.actions ≡ length q.actions = (prefix-facts g s is_open k p mp).length ∙ sym (prefix-facts g s is_open k q mq).length in
    let d = child_dominated g p q action same h.over go in
    record {
      first = Among-Contains _ _ (Among-next g s k p action mp d.0);
      second = Among-Contains _ _ (Among-next g s k q action mq go);
      over = d.1;
    }

-- a list completes the craft with at least this quality
pub record RunsTo (g : SettingsFields) (from : StateFields) (m : List Action) (least : ℕ) : Type 0 where
  pub last : StateFields
  pub ran : run_of g from m ≡ Some last
  pub full : is_complete g last ≡ true
  pub quality : least ≤ last.quality

-- the last action of a run that completes, from a state that isn't less
runs-last : (g : SettingsFields) (a b : StateFields) (x : Action) (r : List Action) (last : StateFields) → IsNotLess a b → is_over g (step_of g b x) ≡ true →
    run_of g (step_of g b x) r ≡ Some last → is_complete g last ≡ true → RunsTo g (step_of g a x) r last.quality
runs-last g a b x [] last h over ran full =
    let e : step_of g b x ≡ last = cc in
    let ends = finishes-not_less g a b x h (ap (is_complete g) e ∙ full) in
    let q : (step_of g b x).quality ≡ last.quality = ap (λ (s : StateFields). s.quality) e in
    record { last = step_of g a x; ran = refl; full = ends.complete; quality = omega (arith, q, ends.quality) }
runs-last g a b x (y ∷ r) last h over ran full =
    elim (bool_cases (is_legal g (step_of g b x) y)) [
      | inl legal ↦ absurd (no_legal_when_over g _ y over legal)
      | inr illegal ↦
          let none : run_of g (step_of g b x) (y ∷ r) ≡ None = ap (λ t. if t then run_of g (step_of g (step_of g b x) y) r else None) illegal in
          absurd (cc (none, ran))
    ]

-- what completes from a state completes from one that isn't less
pub runs-not_less : (g : SettingsFields) (a b : StateFields) (r : List Action) (last : StateFields) → IsNotLess a b →
    run_of g b r ≡ Some last → is_complete g last ≡ true → RunsTo g a r last.quality
runs-not_less g a b [] last h ran full =
    let e : b ≡ last = cc in
    let q : b.quality ≡ last.quality = ap (λ (s : StateFields). s.quality) e in
    let p : a.progress ≡ last.progress = h.progress ∙ ap (λ (s : StateFields). s.progress) e in
    record { last = a; ran = refl; full = ap (λ n. n == g.progress) p ∙ full; quality = omega (arith, q, h.quality) }
runs-not_less g a b (x ∷ r) last h ran full =
    elim (bool_cases (is_legal g b x)) [
      | inr illegal ↦
          let none : run_of g b (x ∷ r) ≡ None = ap (λ t. if t then run_of g (step_of g b x) r else None) illegal in
          absurd (cc (none, ran))
      | inl legal ↦
          let rest : run_of g (step_of g b x) r ≡ Some last = sym (ap (λ t. if t then run_of g (step_of g b x) r else None) legal) ∙ ran in
          let first : run_of g a (x ∷ r) ≡ run_of g (step_of g a x) r = ap (λ t. if t then run_of g (step_of g a x) r else None) (is_legal-not_less g a b x h legal) in
          let more : RunsTo g (step_of g a x) r last.quality = elim (bool_cases (is_over g (step_of g b x))) [
            | inl over ↦ runs-last g a b x r last h over rest full
            | inr live ↦ runs-not_less g (step_of g a x) (step_of g b x) r last (IsNotLess-step g a b x h live) rest full
          ] in
          record { last = more.last; ran = first ∙ more.ran; full = more.full; quality = more.quality }
    ]

pub precedes-append : (m n r : List Action) → precedes m n ≡ true → precedes (m ++ r) (n ++ r) ≡ true
precedes-append [] n r h = cc
precedes-append (a ∷ m) [] r h = cc
precedes-append (a ∷ m) (b ∷ n) r h = step_or (nat_lt (number_of a) (number_of b)) (number_of a == number_of b) _ _ (precedes-append m n r) h

pub sooner_still : (x y d : ℕ) (p q : Bool) → (p ≡ true → q ≡ true) → (nat_lt x y || (x == y && p)) ≡ true → (nat_lt (x + d) (y + d) || (x + d == y + d && q)) ≡ true
sooner_still x y d p q t h = grind (arith, nat_tests, t)

some-same : (s t : Score) → Some s ≡ Some t → s ≡ t
some-same s t h = cc

-- the rest of the best list after a prefix that dominates one of its own makes a better one
pub never-dominated : (g : SettingsFields) (s : StateFields) (m : List Action) (k : ℕ) (p q : Prefix) → IsOpen g s → IsBestFrom g s m → Among p (prefixes g s k) → Among q (prefixes g s k) →
    q.actions ≡ take k m → dominates p q ≡ true → ⊥
unfolding dominates
never-dominated g s m k p q is_open best mp mq cut h =
    let r = drop k m in
    let n = p.actions ++ r in
    let fp = prefix-facts g s is_open k p mp in
    let fq = prefix-facts g s is_open k q mq in
    let split : q.actions ++ r ≡ m = ap (λ l. l ++ r) cut ∙ take-append-drop k m in
    let says = score-says g m _ best.score best.completes in
    let ran : run_of g q.state r ≡ Some says.last = sym (run_of-append g s q.state q.actions r fq.ran) ∙ ap (run_of g s) split ∙ says.ran in
    let other = runs-not_less g p.state q.state r says.last (IsNotLess-dominates p q h) ran says.full in
    let mine : Score = record { quality = counted g other.last; steps = length n; seconds = seconds_of n } in
    let completes : score_from g s n ≡ Some mine =
    ap (scored g n) (run_of-append g s p.state p.actions r fp.ran ∙ other.ran) ∙ ap (λ b. if b then Some mine else None) other.full in
    let more : best.score.quality ≤ mine.quality = let c = counted_le g says.last other.last other.quality in omega (arith, c, says.quality) in
    let steps : mine.steps ≡ best.score.steps = omega (arith, says.steps, ap length split, length-append p.actions r, length-append q.actions r, fp.length, fq.length) in
    let took : mine.seconds ≡ p.seconds + seconds_of r = seconds_of-append p.actions r ∙ ap (λ s. s + seconds_of r) (sym fp.seconds) in
    let took_best : best.score.seconds ≡ q.seconds + seconds_of r =
    says.seconds ∙ ap seconds_of (sym split) ∙ seconds_of-append q.actions r ∙ ap (λ s. s + seconds_of r) (sym fq.seconds) in
    let still = sooner_still p.seconds q.seconds (seconds_of r) (precedes p.actions q.actions) (precedes n (q.actions ++ r)) (precedes-append p.actions q.actions r) (and_both _ _ h).1 in
    let sooner : (nat_lt mine.seconds best.score.seconds || (mine.seconds == best.score.seconds && precedes n m)) ≡ true =
    rw (took, took_best) (subst (λ (l : List Action). (nat_lt (p.seconds + seconds_of r) (q.seconds + seconds_of r) || (p.seconds + seconds_of r == q.seconds + seconds_of r && precedes n l)) ≡ true) split still) in
    let wins : is_better mine n best.score m ≡ true = elim (at_most best.score.quality mine.quality more) [
      | inl less ↦ better_quality mine.quality best.score.quality _ less
      | inr same ↦ better_sooner _ _ _ _ _ (sym same) steps sooner
    ] in
    elim (best.best n mine completes) [
      | inr worse ↦ better_not n m mine best.score wins worse
      | inl same ↦
          let e : best.score ≡ mine = some-same best.score mine (sym best.completes ∙ ap (score_from g s) same ∙ completes) in
          let self : is_better mine n mine n ≡ true = subst (λ (s : Score). is_better mine n s n ≡ true) e (subst (λ (l : List Action). is_better mine n best.score l ≡ true) same wins) in
          better_not n n mine mine self self
    ]

best-undominated : (g : SettingsFields) (s : StateFields) (m : List Action) (k : ℕ) (q : Prefix) → IsOpen g s → IsBestFrom g s m → Among q (prefixes g s k) → q.actions ≡ take k m →
    undominated (prefixes g s k) q ≡ true
best-undominated g s m k q is_open best here cut =
    elim (bool_cases (list_any (λ p. dominates p q) (prefixes g s k))) [
      | inr none ↦ ap not none
      | inl some ↦ let w = any-Among (λ p. dominates p q) (prefixes g s k) some in absurd (never-dominated g s m k w.0 q is_open best w.1 here cut w.2)
    ]

-- the live prefix with the first actions of a longer one
record StartsWith (g : SettingsFields) (s : StateFields) (k : ℕ) (actions : List Action) : Type 0 where
  pub prefix : Prefix
  pub among : Among prefix (prefixes g s k)
  pub is : take k actions ≡ prefix.actions

starts-with : (g : SettingsFields) (s : StateFields) (d k j : ℕ) (p : Prefix) → IsOpen g s → j ≡ d + k → Among p (prefixes g s j) → StartsWith g s k p.actions
unfolding prefixes
starts-with g s zero k j p is_open e h =
    let same : j ≡ k = omega (arith, e) in
    let here : Among p (prefixes g s k) = subst (λ i. Among p (prefixes g s i)) same h in
    record { prefix = p; among = here; is = take_all k p.actions (omega (arith, (prefix-facts g s is_open k p here).length)) }
starts-with g s (suc d) k j p is_open e h =
    let same : j ≡ suc (d + k) = omega (arith, e) in
    let here : Among p (prefixes g s (suc (d + k))) = subst (λ i. Among p (prefixes g s i)) same h in
    let f = flat_map-Among (children g) p (prefixes g s (d + k)) here in
    let by = children-Among g f.0 p f.2 in
    let rest = starts-with g s d k (d + k) f.0 is_open refl f.1 in
    let long = (prefix-facts g s is_open (d + k) f.0 f.1).length in
    let cut : take k (f.0.actions ++ by.action ∷ []) ≡ take k f.0.actions = take-append-le k f.0.actions (by.action ∷ []) (omega (arith, long)) in
    record { prefix = rest.prefix; among = rest.among; is = ap (λ (q : Prefix). take k q.actions) (sym by.is) ∙ cut ∙ rest.is }

pub best-survives : (g : SettingsFields) (s : StateFields) (m : List Action) (k : ℕ) → IsOpen g s → IsBestFrom g s m → k < length m → IsListOf (take k m) (survivors (prefixes g s k))
best-survives g s m k is_open best below =
    let says = score-says g m _ best.score best.completes in
    let ends = run-ends g s 0 (empty_from s) m says.last (Among-first g s) is_open.live says.ran says.full in
    let e = ends.ends in
    let long = (prefix-facts g s is_open ends.place e.before e.among).length in
    let steps : length m ≡ ends.place + 1 = omega (arith, ap length e.is, length-append e.before.actions (e.action ∷ []), long) in
    let split : ends.place ≡ ends.place - k + k = omega (arith, steps, below) in
    let r = starts-with g s (ends.place - k) k ends.place e.before is_open split e.among in
    let cut : take k (e.before.actions ++ e.action ∷ []) ≡ take k e.before.actions = take-append-le k e.before.actions (e.action ∷ []) (omega (arith, long, steps, below)) in
    let is : take k m ≡ r.prefix.actions = ap (take k) e.is ∙ cut ∙ r.is in
    let free = best-undominated g s m k r.prefix is_open best r.among (sym is) in
    (r.prefix, Among-Contains _ r.prefix (Among-filter (undominated (prefixes g s k)) r.prefix (prefixes g s k) r.among free), is)
