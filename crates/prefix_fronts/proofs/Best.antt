-- The first completion that the fronts lead to is the best from the state.
use Rattle.std.proofs.Common.{◌≡◌, ◌∙◌, sym, ℕ, suc, ◌+◌, ◌-◌, ◌/◌, ◌<◌, ◌≤◌, Bool, true, false, not, ◌&&◌, ◌||◌, ◌==◌, nat_lt, ◌⊎◌, inl, inr, List, [], ◌∷◌, ◌++◌, append_assoc, length, length-append, Option, Some, None, arith, refl, ap, subst, map, if◌then◌else◌}
use Rattle.plain_lemmas.proofs.Places.{Contains-Among, All-Among}
use Rattle.plain_lemmas.proofs.Tests.{bool_cases, clash, and_both, and_by, eq_from, eq_to, ways}
use Rattle.std.specs.List.{filter, list_any}
use Rattle.std.proofs.lemmas.Bool.Decides.{nat_tests}
use Rattle.action_table.specs.declared.action.Action.{Action}
use Rattle.action_table.specs.Table.{all_actions, action_seconds}
use Rattle.craft_state.specs.Craft.{StateFields}
use Rattle.craft_settings.specs.Ranges.{SettingsFields}
use Rattle.step_rules.specs.Legality.{start_of, is_legal, is_over, is_complete}
use Rattle.step_rules.specs.Step.{step_of}
use Rattle.step_rules.specs.Run.{run_of}
use Rattle.step_rules.specs.Measure.{measure}
use Rattle.step_rules.proofs.Runs.{run_of-snoc, measure-run}
use Rattle.step_rules.proofs.LegalFacts.{legal_facts}
use Rattle.dominance.proofs.Children.{is_legal-not_less}
use Rattle.dominance.proofs.Finishing.{finishes-not_less}
use Rattle.macro_order.specs.declared.scores.Score.{Score}
use Rattle.step_rules.specs.Macro.{counted, IsReached}
use Rattle.macro_order.specs.Order.{seconds_of, scored, score_from, is_better, precedes, IsBestFrom}
use Rattle.prefix_fronts.specs.Prefix.{IsOpen, Prefix, empty_from, extend, prefixes, dominates, is_sooner, undominated, front, finishes, finishers, completions, Test, AreLimits, IsGreatestFrom, IsReachedFrom, IsFirstFound}
use Rattle.plain_lemmas.proofs.Lists.{Among, Among-filter, filter-Among, Among-map, map-Among, Among-flat_map, flat_map-Among, topmost}
use Rattle.prefix_fronts.proofs.Dominance.{dominates-irreflexive, dominates-transitive, IsNotLess-dominates, goes_on-by, is_sooner-more}
use Rattle.macro_order.proofs.Transitive.{step_trans, precedes-transitive}
use Rattle.prefix_fronts.proofs.Fronts.{front-among}
use Rattle.prefix_fronts.proofs.Members.{prefix-facts, Among-next, Among-all_actions, seconds_of-snoc}

-- how a list that completes the craft ends
pub record EndsAt (g : SettingsFields) (s : StateFields) (k : ℕ) (m : List Action) (last : StateFields) (seconds : ℕ) : Type 0 where
  pub before : Prefix
  pub among : Among before (prefixes g s k)
  pub action : Action
  pub legal : is_legal g before.state action ≡ true
  pub last_is : last ≡ step_of g before.state action
  pub is : m ≡ before.actions ++ action ∷ []
  pub seconds_is : seconds ≡ before.seconds + action_seconds action

over_complete : (g : SettingsFields) (s : StateFields) → is_complete g s ≡ true → is_over g s ≡ true
over_complete g s h = rw h refl

pub no_legal_when_over : (g : SettingsFields) (s : StateFields) (a : Action) → is_over g s ≡ true → is_legal g s a ≡ true → ⊥
no_legal_when_over g s a over legal = clash over (legal_facts g s a legal).live

pub record EndsSome (g : SettingsFields) (s : StateFields) (m : List Action) (last : StateFields) (seconds : ℕ) : Type 0 where
  pub place : ℕ
  pub ends : EndsAt g s place m last seconds

ended : (g : SettingsFields) (s : StateFields) (k : ℕ) (p : Prefix) (a : Action) (r : List Action) (last : StateFields) → Among p (prefixes g s k) → is_legal g p.state a ≡ true →
    is_over g (step_of g p.state a) ≡ true → run_of g (step_of g p.state a) r ≡ Some last → EndsSome g s (p.actions ++ a ∷ r) last (p.seconds + seconds_of (a ∷ r))
ended g s k p a [] last here legal over ran = record {
  place = k;
  ends = record { before = p; among = here; action = a; legal = legal; last_is = cc; is = refl; seconds_is = omega arith };
}
ended g s k p a (b ∷ r) last here legal over ran =
    elim (bool_cases (is_legal g (step_of g p.state a) b)) [
      | inl h ↦ absurd (no_legal_when_over g _ b over h)
      | inr h ↦
          let none : run_of g (step_of g p.state a) (b ∷ r) ≡ None = ap (λ t. if t then run_of g (step_of g (step_of g p.state a) b) r else None) h in
          absurd (cc (none, ran))
    ]

-- the last action of a run that completes
pub run-ends : (g : SettingsFields) (s : StateFields) (k : ℕ) (p : Prefix) (r : List Action) (last : StateFields) → Among p (prefixes g s k) → is_over g p.state ≡ false →
    run_of g p.state r ≡ Some last → is_complete g last ≡ true → EndsSome g s (p.actions ++ r) last (p.seconds + seconds_of r)
run-ends g s k p [] last here live ran full =
    let e : p.state ≡ last = cc in
    absurd (clash (over_complete g last full) (ap (is_over g) (sym e) ∙ live))
run-ends g s k p (a ∷ r) last here live ran full =
    elim (bool_cases (is_legal g p.state a)) [
      | inr illegal ↦
          let none : run_of g p.state (a ∷ r) ≡ None = ap (λ b. if b then run_of g (step_of g p.state a) r else None) illegal in
          absurd (cc (none, ran))
      | inl legal ↦
          let ran' : run_of g (step_of g p.state a) r ≡ Some last = sym (ap (λ b. if b then run_of g (step_of g p.state a) r else None) legal) ∙ ran in
          elim (bool_cases (is_over g (step_of g p.state a))) [
            | inr goes ↦
                let more = run-ends g s (suc k) (extend g p a) r last (Among-next g s k p a here (goes_on-by g p.state a legal goes)) goes ran' full in
                let joined : (p.actions ++ a ∷ []) ++ r ≡ p.actions ++ a ∷ r = append_assoc p.actions (a ∷ []) r in
                let summed : p.seconds + action_seconds a + seconds_of r ≡ p.seconds + seconds_of (a ∷ r) = omega arith in
                subst (λ (m : List Action). EndsSome g s m last (p.seconds + seconds_of (a ∷ r))) joined
                (subst (λ (n : ℕ). EndsSome g s ((p.actions ++ a ∷ []) ++ r) last n) summed more)
            | inl over ↦ ended g s k p a r last here legal over ran'
          ]
    ]

-- what a score says
pub record ScoreSays (g : SettingsFields) (m : List Action) (o : Option StateFields) (s : Score) : Type 0 where
  pub last : StateFields
  pub ran : o ≡ Some last
  pub full : is_complete g last ≡ true
  pub quality : s.quality ≡ counted g last
  pub steps : s.steps ≡ length m
  pub seconds : s.seconds ≡ seconds_of m

pub score-says : (g : SettingsFields) (m : List Action) (o : Option StateFields) (s : Score) → scored g m o ≡ Some s → ScoreSays g m o s
score-says g m None s h = absurd (cc h)
score-says g m (Some last) s h =
    elim (bool_cases (is_complete g last)) [
      | inl full ↦
          let is : Some (record { quality = counted g last; steps = length m; seconds = seconds_of m }) ≡ Some s = sym (ap (λ b. if b then Some (record { quality = counted g last; steps = length m; seconds = seconds_of m }) else None) full) ∙ h in
          let same : (record { quality = counted g last; steps = length m; seconds = seconds_of m }) ≡ s = cc in
          record { last = last; ran = refl; full = full; quality = sym (ap (λ (t : Score). t.quality) same); steps = sym (ap (λ (t : Score). t.steps) same); seconds = sym (ap (λ (t : Score). t.seconds) same) }
      | inr other ↦
          let none : scored g m (Some last) ≡ None = ap (λ b. if b then Some (record { quality = counted g last; steps = length m; seconds = seconds_of m }) else None) other in
          absurd (cc (none, h))
    ]

-- the score of one more action
pub score-extend : (g : SettingsFields) (s : StateFields) → IsOpen g s → (k : ℕ) (q : Prefix) (a : Action) → Among q (prefixes g s k) → is_legal g q.state a ≡ true → is_complete g (step_of g q.state a) ≡ true →
    score_from g s (extend g q a).actions ≡ Some (record { quality = counted g (step_of g q.state a); steps = length (extend g q a).actions; seconds = seconds_of (extend g q a).actions })
score-extend g s is_open k q a here legal full =
    let ran = run_of-snoc g s q.state q.actions a (prefix-facts g s is_open k q here).ran legal in
    ap (scored g (q.actions ++ a ∷ [])) ran
    ∙ ap (λ b. if b then Some (record { quality = counted g (step_of g q.state a); steps = length (q.actions ++ a ∷ []); seconds = seconds_of (q.actions ++ a ∷ []) }) else None) full

pub finishes-by : (g : SettingsFields) (target : ℕ) (s : StateFields) (a : Action) → is_legal g s a ≡ true → is_complete g (step_of g s a) ≡ true → counted g (step_of g s a) ≡ target → finishes g target s a ≡ true
finishes-by g target s a legal full quality = and_by _ _ legal (and_by _ _ full (eq_to _ _ quality))

pub record FinishesFrom (g : SettingsFields) (target : ℕ) (kept : List Prefix) (c : Prefix) : Type 0 where
  pub from : Prefix
  pub among : Among from kept
  pub action : Action
  pub legal : is_legal g from.state action ≡ true
  pub full : is_complete g (step_of g from.state action) ≡ true
  pub quality : counted g (step_of g from.state action) ≡ target
  pub is : extend g from action ≡ c

pub finishers-Among : (g : SettingsFields) (target : ℕ) (kept : List Prefix) (c : Prefix) → Among c (finishers g target kept) → FinishesFrom g target kept c
finishers-Among g target kept c h =
    let f = flat_map-Among (λ p. map (extend g p) (filter (finishes g target p.state) all_actions)) c kept h in
    let r = map-Among (extend g f.0) c _ f.2 in
    let t = and_both _ _ (filter-Among (finishes g target f.0.state) r.0 all_actions r.1).1 in
    let u = and_both _ _ t.1 in
    record { from = f.0; among = f.1; action = r.0; legal = t.0; full = u.0; quality = eq_from _ _ u.1; is = r.2 }

pub Among-finishers : (g : SettingsFields) (target : ℕ) (kept : List Prefix) (p : Prefix) (a : Action) → Among p kept → finishes g target p.state a ≡ true → Among (extend g p a) (finishers g target kept)
Among-finishers g target kept p a here h =
    Among-flat_map (λ p. map (extend g p) (filter (finishes g target p.state) all_actions)) p (extend g p a) kept here
    (Among-map (extend g p) a _ (Among-filter (finishes g target p.state) a all_actions (Among-all_actions a) h))

-- a completion that the front leads to, as good as the one that is given
pub record FoundAs (g : SettingsFields) (s : StateFields) (target : ℕ) (passes : Test) (k : ℕ) (c : Prefix) : Type 0 where
  pub top : Prefix
  pub among : Among top (finishers g target (front g s passes (k + 1) k))
  pub as_good : (top ≡ c) ⊎ (is_sooner top c ≡ true)

front-Among : (g : SettingsFields) (s : StateFields) (passes : Test) (k : ℕ) (p : Prefix) → Among p (prefixes g s k) → passes 1 p.state ≡ true → list_any (λ q. dominates q p) (prefixes g s k) ≡ false → Among p (front g s passes (k + 1) k)
unfolding front
front-Among g s passes k p here pass free =
    let one : k + 1 - k ≡ 1 = omega arith in
    Among-filter (λ p. passes (k + 1 - k) p.state && undominated (prefixes g s k) p) p (prefixes g s k) here (and_by _ _ (rw one pass) (ap not free))

dominates-sooner : (g : SettingsFields) (q p : Prefix) (a : Action) → length q.actions ≡ length p.actions → dominates q p ≡ true → is_sooner (extend g q a) (extend g p a) ≡ true
unfolding dominates
dominates-sooner g q p a same h = is_sooner-more g q p a same (and_both _ _ h).1

pub counted_le : (g : SettingsFields) (a b : StateFields) → a.quality ≤ b.quality → counted g a ≤ counted g b
counted_le g a b h = omega (arith, h)

pub found-as : (g : SettingsFields) (s : StateFields) (target : ℕ) (passes : Test) (k : ℕ) → IsOpen g s → AreLimits g target passes → IsGreatestFrom g s target →
    (p : Prefix) (a : Action) → Among p (prefixes g s k) → is_legal g p.state a ≡ true → is_complete g (step_of g p.state a) ≡ true → counted g (step_of g p.state a) ≡ target →
    FoundAs g s target passes k (extend g p a)
found-as g s target passes k is_open limits greatest p a here legal full quality =
    let is = prefix-facts g s is_open k p here in
    let pass : passes 1 p.state ≡ true = limits.last 0 p.state a is.within is.live legal full (omega (arith, quality)) in
    elim (topmost dominates dominates-irreflexive dominates-transitive (prefixes g s k) p) [
      | inl none ↦ record { top = extend g p a; among = Among-finishers g target _ p a (front-Among g s passes k p here pass none) (finishes-by g target p.state a legal full quality); as_good = inl refl }
      | inr t ↦
          let q = t.top in
          let not_less = IsNotLess-dominates q p t.over in
          let tops = prefix-facts g s is_open k q t.among in
          let legal' = is_legal-not_less g q.state p.state a not_less legal in
          let ends = finishes-not_less g q.state p.state a not_less full in
          let most = greatest (extend g q a).actions _ (score-extend g s is_open k q a t.among legal' ends.complete) in
          let more = counted_le g (step_of g p.state a) (step_of g q.state a) ends.quality in
          let same : counted g (step_of g q.state a) ≡ target = omega (arith, most, more, quality) in
          let passed = limits.order 1 q.state p.state tops.within is.within is.live not_less pass in
          record {
            top = extend g q a;
            among = Among-finishers g target _ q a (front-Among g s passes k q t.among passed t.free) (finishes-by g target q.state a legal' ends.complete same);
            as_good = inr (dominates-sooner g q p a (tops.length ∙ sym is.length) t.over);
          }
    ]

some-Among : {X : Type 0} (xs : List X) (x : X) → Among x xs → 0 < length xs
some-Among [] x h = absurd h
some-Among (y ∷ xs) x h = omega arith

pub better_quality : (q q' : ℕ) (r : Bool) → q' < q → (nat_lt q' q || r) ≡ true
better_quality q q' r h = grind (arith, nat_tests)

pub better_steps : (q q' s s' : ℕ) (r : Bool) → q ≡ q' → s < s' → (nat_lt q' q || (q == q' && (nat_lt s s' || r))) ≡ true
better_steps q q' s s' r h k = grind (arith, nat_tests)

pub better_sooner : (q q' s s' : ℕ) (r : Bool) → q ≡ q' → s ≡ s' → r ≡ true → (nat_lt q' q || (q == q' && (nat_lt s s' || (s == s' && r)))) ≡ true
better_sooner q q' s s' r h k t = grind (arith, nat_tests)

pub sooner_trans : (p q r : Prefix) → is_sooner p q ≡ true → is_sooner q r ≡ true → is_sooner p r ≡ true
sooner_trans p q r h k = step_trans p.seconds q.seconds r.seconds _ _ _ (precedes-transitive p.actions q.actions r.actions) h k

pub at_most : (a b : ℕ) → a ≤ b → (a < b) ⊎ (a ≡ b)
at_most a b h = grind arith

nothing_in : (c : Prefix) (xs : List Prefix) → xs ≡ [] → Among c xs → ⊥
nothing_in c xs e h = subst (λ ys. Among c ys) e h

joined : (p q r : Prefix) → (p ≡ q) ⊎ (is_sooner p q ≡ true) → (q ≡ r) ⊎ (is_sooner q r ≡ true) → (p ≡ r) ⊎ (is_sooner p r ≡ true)
joined p q r (inl e) (inl f) = inl (e ∙ f)
joined p q r (inl e) (inr k) = inr (subst (λ (z : Prefix). is_sooner z r ≡ true) (sym e) k)
joined p q r (inr h) (inl f) = inr (subst (λ (z : Prefix). is_sooner p z ≡ true) f h)
joined p q r (inr h) (inr k) = inr (sooner_trans p q r h k)

pub Among-first : (g : SettingsFields) (s : StateFields) → Among (empty_from s) (prefixes g s 0)
unfolding prefixes
Among-first g s = inl refl

-- of two lists of one quality and length
finish : (g : SettingsFields) (p : Prefix) (a : Action) (found : Prefix) (m : List Action) (b : Score) (q : Prefix) (x : Action) (target n : ℕ) →
    extend g p a ≡ found → m ≡ q.actions ++ x ∷ [] → counted g (step_of g p.state a) ≡ target → b.quality ≡ target →
    seconds_of (p.actions ++ a ∷ []) ≡ p.seconds + action_seconds a → b.seconds ≡ q.seconds + action_seconds x → length (p.actions ++ a ∷ []) ≡ n → b.steps ≡ n →
    (found ≡ extend g q x) ⊎ (is_sooner found (extend g q x) ≡ true) →
    ((extend g p a).actions ≡ m) ⊎ (is_better (record { quality = counted g (step_of g p.state a); steps = length (extend g p a).actions; seconds = seconds_of (extend g p a).actions }) (extend g p a).actions b m ≡ true)
finish g p a found m b q x target n is m_is mine his took took' long long' (inl e) = inl (ap (λ (z : Prefix). z.actions) (is ∙ e) ∙ sym m_is)
finish g p a found m b q x target n is m_is mine his took took' long long' (inr h) =
    let sooner : is_sooner (extend g p a) (extend g q x) ≡ true = subst (λ (z : Prefix). is_sooner z (extend g q x) ≡ true) (sym is) h in
    let r : (nat_lt (seconds_of (p.actions ++ a ∷ [])) b.seconds || (seconds_of (p.actions ++ a ∷ []) == b.seconds && precedes (p.actions ++ a ∷ []) m)) ≡ true = rw (took, took', m_is) sooner in
    inr (better_sooner _ _ _ _ _ (mine ∙ sym his) (long ∙ sym long') r)

-- nothing is found with fewer actions
none-before : (g : SettingsFields) (s : StateFields) (target : ℕ) (passes : Test) (n : ℕ) (found : Prefix) (k : ℕ) → IsFirstFound g s target passes n found → k + 1 < n →
    finishers g target (front g s passes (k + 1) k) ≡ []
none-before g s target passes n found k first below =
    let one : k + 1 - 1 ≡ k = omega arith in
    subst (λ j. finishers g target (front g s passes (k + 1) j) ≡ []) one (first.none_before (k + 1) (omega arith) below)

pub first-best : (g : SettingsFields) (s : StateFields) (target : ℕ) (passes : Test) (n : ℕ) (found : Prefix) →
    IsOpen g s → AreLimits g target passes → IsGreatestFrom g s target → IsFirstFound g s target passes n found → IsBestFrom g s found.actions
unfolding front
first-best g s target passes n found is_open limits greatest first =
    let here = Contains-Among _ found first.among in
    let f = finishers-Among g target _ found here in
    let at : Among f.from (prefixes g s (n - 1)) = (filter-Among (λ p. passes (n - (n - 1)) p.state && undominated (prefixes g s (n - 1)) p) f.from (prefixes g s (n - 1)) f.among).0 in
    let is = prefix-facts g s is_open (n - 1) f.from at in
    let mine : Score = record { quality = counted g (step_of g f.from.state f.action); steps = length (extend g f.from f.action).actions; seconds = seconds_of (extend g f.from f.action).actions } in
    let long : length (f.from.actions ++ f.action ∷ []) ≡ n = omega (arith, length-append f.from.actions (f.action ∷ []), is.length, first.some) in
    let took : seconds_of (f.from.actions ++ f.action ∷ []) ≡ f.from.seconds + action_seconds f.action = seconds_of-snoc f.from.actions f.action ∙ ap (λ s. s + action_seconds f.action) (sym is.seconds) in
    let acts : (extend g f.from f.action).actions ≡ found.actions = ap (λ (p : Prefix). p.actions) f.is in
    subst (λ (m : List Action). IsBestFrom g s m) acts (record {
      score = mine;
      completes = score-extend g s is_open (n - 1) f.from f.action at f.legal f.full;
      best = λ m b scored'.
          let says = score-says g m _ b scored' in
          let most = greatest m b scored' in
          elim (at_most b.quality target most) [
            | inl less ↦ inr (better_quality mine.quality b.quality _ (omega (arith, less, f.quality)))
            | inr same ↦
                let ends = run-ends g s 0 (empty_from s) m says.last (Among-first g s) is_open.live says.ran says.full in
                let e = ends.ends in
                let full : is_complete g (step_of g e.before.state e.action) ≡ true = ap (is_complete g) (sym e.last_is) ∙ says.full in
                let quality : counted g (step_of g e.before.state e.action) ≡ target = ap (counted g) (sym e.last_is) ∙ sym says.quality ∙ same in
                let found' = found-as g s target passes ends.place is_open limits greatest e.before e.action e.among e.legal full quality in
                let facts = prefix-facts g s is_open ends.place e.before e.among in
                let steps : b.steps ≡ ends.place + 1 = omega (arith, says.steps, ap length e.is, length-append e.before.actions (e.action ∷ []), facts.length) in
                elim (ways n (ends.place + 1)) [
                  | inl shorter ↦ inr (better_steps mine.quality b.quality mine.steps b.steps _ (f.quality ∙ sym same) (omega (arith, shorter, steps, long)))
                  | inr rest ↦ elim rest [
                    | inr longer ↦ absurd (nothing_in found'.top _ (none-before g s target passes n found ends.place first longer) found'.among)
                    | inl equal ↦
                        let place : ends.place ≡ n - 1 = omega (arith, equal) in
                        let among : Among found'.top (finishers g target (front g s passes n (n - 1))) = subst (λ k. Among found'.top (finishers g target (front g s passes n k))) place (subst (λ j. Among found'.top (finishers g target (front g s passes j ends.place))) (sym equal) found'.among) in
                        let soonest : (found ≡ found'.top) ⊎ (is_sooner found found'.top ≡ true) = All-Among (λ q. (found ≡ q) ⊎ (is_sooner found q ≡ true)) _ found'.top first.soonest among in
                        let same_or : (found ≡ extend g e.before e.action) ⊎ (is_sooner found (extend g e.before e.action) ≡ true) = joined found found'.top (extend g e.before e.action) soonest found'.as_good in
                        finish g f.from f.action found m b e.before e.action target n f.is e.is f.quality same (took) (says.seconds ∙ ap seconds_of e.is ∙ seconds_of-snoc e.before.actions e.action ∙ ap (λ s. s + action_seconds e.action) (sym facts.seconds)) long (steps ∙ sym equal) same_or
                  ]
                ]
          ];
    })

-- no list from an open state is longer than a quarter of its measure
length-run : (g : SettingsFields) (s last : StateFields) (m : List Action) → IsOpen g s → run_of g s m ≡ Some last → length m ≤ measure s / 4
length-run g s last m is_open ran = let falls = measure-run g s last m is_open.within ran in omega (arith, falls)

-- what a macro reaches is reached from the start
abbrev pub reached-start : (g : SettingsFields) (target : ℕ) → IsReached g target → IsReachedFrom g (start_of g) target
reached-start g target reached = record {
  actions = reached.actions;
  completes = record { last = reached.last; ran = reached.ran; complete = reached.complete };
  same = reached.same;
}

-- what a list of the target's quality leads to
pub reached-at : (g : SettingsFields) (s : StateFields) (target : ℕ) (passes : Test) (reached : IsReachedFrom g s target) → IsOpen g s → AreLimits g target passes → IsGreatestFrom g s target →
    (1 ≤ length reached.actions) × (length reached.actions ≤ measure s / 4) × (0 < length (completions g s target passes (length reached.actions)))
reached-at g s target passes reached is_open limits greatest =
    let m = reached.actions in
    let done = reached.completes in
    let ends = run-ends g s 0 (empty_from s) m done.last (Among-first g s) is_open.live done.ran done.complete in
    let e = ends.ends in
    let full : is_complete g (step_of g e.before.state e.action) ≡ true = ap (is_complete g) (sym e.last_is) ∙ done.complete in
    let quality : counted g (step_of g e.before.state e.action) ≡ target = ap (counted g) (sym e.last_is) ∙ reached.same in
    let found = found-as g s target passes ends.place is_open limits greatest e.before e.action e.among e.legal full quality in
    let facts = prefix-facts g s is_open ends.place e.before e.among in
    let steps : length m ≡ ends.place + 1 = omega (arith, ap length e.is, length-append e.before.actions (e.action ∷ []), facts.length) in
    let before : ends.place ≡ length m - 1 = omega (arith, steps) in
    let among : Among found.top (completions g s target passes (length m)) =
    subst (λ k. Among found.top (finishers g target (front g s passes (length m) k))) before (subst (λ n. Among found.top (finishers g target (front g s passes n ends.place))) (sym steps) found.among) in
    (omega (arith, steps), length-run g s done.last m is_open done.ran, some-Among _ found.top among)

pub finishers-long : (g : SettingsFields) (s : StateFields) (target : ℕ) (passes : Test) (n k : ℕ) (c : Prefix) → IsOpen g s → Among c (finishers g target (front g s passes n k)) → length c.actions ≡ k + 1
finishers-long g s target passes n k c is_open h =
    let f = finishers-Among g target _ c h in
    let is = prefix-facts g s is_open k f.from (front-among g s passes n k f.from f.among) in
    ap (λ (p : Prefix). length p.actions) (sym f.is) ∙ length-append f.from.actions (f.action ∷ []) ∙ ap (λ l. l + 1) is.length
