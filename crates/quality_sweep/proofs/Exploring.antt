-- What looking at the children of states does.
use Rattle.std.proofs.Common.{◌≡◌, ◌∙◌, sym, ℕ, ◌+◌, ◌<◌, ◌≤◌, true, false, inl, inr, List, [], ◌∷◌, ◌++◌, Option, Some, None, arith, refl, subst, ap, min, take, length, get_or}
use Rattle.std.proofs.lemmas.Bool.Decides.{nat_tests}
use Rattle.std.specs.List.{All, Contains}
use Rattle.std.specs.Option.{IfSome}
use Rattle.std.specs.List.Sorted.{IsPermutation}
use Rattle.std.proofs.lemmas.List.Sorted.{All-permutation}
use Rattle.std.proofs.lemmas.List.Elements.{All-push, All-nil, All-contains, All-contains_itself, All-weaker, Contains-append_left, Contains-push, Contains-push_cases, Contains-append_cases}
use Rattle.std.proofs.lemmas.List.{take_more}
use Rattle.plain_lemmas.proofs.Tests.{clash, or_left, some_same}
use Rattle.plain_lemmas.proofs.Places.{Among-Contains}
use Rattle.action_table.specs.declared.action.Action.{Action}
use Rattle.action_table.specs.Table.{all_actions}
use Rattle.craft_state.specs.Craft.{StateFields}
use Rattle.craft_settings.specs.Ranges.{SettingsFields}
use Rattle.craft_settings.specs.Rules.{cap_of}
use Rattle.step_rules.specs.Legality.{is_complete, is_over, is_legal}
use Rattle.step_rules.specs.Run.{run_of}
use Rattle.step_rules.specs.Step.{step_of}
use Rattle.step_rules.specs.Macro.{counted}
use Rattle.step_rules.proofs.Runs.{run_of-snoc}
use Rattle.prefix_fronts.proofs.Members.{Among-all_actions}
use Rattle.pareto_front.proofs.Covered.{IsNotLess-itself}
use Rattle.quality_sweep.specs.declared.candidate.Candidate.{Candidate}
use Rattle.quality_sweep.specs.Ahead.{IsOpen, IsReachedFrom, IsAtMost, NoBetter, is_above}
use Rattle.quality_sweep.specs.Sweeping.{Rises, Becomes, IsReachable, IsWaiting, IsChild, IsCoveredBy, IsSettled, IsExpanded, Stands, Visits, Expands, Explores}
use Rattle.quality_sweep.proofs.Completing.{over_nil, rises-itself, rises-trans, no_better-rises, no_better-cut, settled-moved}

pub contains_nil : {X : Type 0} (x : X) → Contains [] x → ⊥
contains_nil x h = let lt : h.0 < 0 = h.1 in absurd (omega arith)

pub contains_one : {X : Type 0} (x y : X) → Contains (x ∷ []) y → x ≡ y
contains_one x y h = elim (Contains-push_cases [] x y h) [ inl none ↦ absurd (contains_nil y none) | inr e ↦ e ]

-- what a permutation contains
pub contains_back : {X : Type 0} (xs ys : List X) → IsPermutation xs ys → (x : X) → Contains ys x → Contains xs x
contains_back xs ys moved x there = All-contains (Contains xs) ys x (All-permutation (Contains xs) xs ys moved (All-contains_itself xs)) there

-- candidates that stand in a list whose candidates wait
pub waits-among : (g : SettingsFields) (allows : StateFields → Type 0) (from : StateFields) (batch level : List Candidate) → ((c : Candidate) → Contains level c → Contains batch c) → All (IsWaiting g allows from) batch → All (IsWaiting g allows from) level
waits-among g allows from batch level among waits =
    All-weaker (λ c. Contains level c) (IsWaiting g allows from) (λ c there. All-contains (IsWaiting g allows from) batch c waits (among c there)) level (All-contains_itself level)

-- the best quality over more than one change
pub becomes-trans : (g : SettingsFields) (from : StateFields) (a b c : Option ℕ) → Becomes g from a b → Becomes g from b c → Becomes g from a c
becomes-trans g from a b c h (inr reached) = inr reached
becomes-trans g from a b c (inl same) (inl still) = inl (still ∙ same)
becomes-trans g from a b c (inr reached) (inl still) = inr (subst (λ (o : Option ℕ). IfSome o (IsReachedFrom g from)) (sym still) reached)

pub becomes-reached : (g : SettingsFields) (from : StateFields) (a b : Option ℕ) → IfSome a (IsReachedFrom g from) → Becomes g from a b → IfSome b (IsReachedFrom g from)
becomes-reached g from a b h (inr reached) = reached
becomes-reached g from a b h (inl same) = subst (λ (o : Option ℕ). IfSome o (IsReachedFrom g from)) (sym same) h

stands-kept : (found found' : List Candidate) → ((x : Candidate) → Contains found x → Contains found' x) → (s : StateFields) → Stands found s → Stands found' s
stands-kept found found' keeps s h = record { candidate = h.candidate; there = keeps h.candidate h.there; same = h.same }

pub covered-itself : (P : StateFields → Type 0) (s : StateFields) → P s → IsCoveredBy P s
covered-itself P s h = record { cover = s; is_there = h; not_less = IsNotLess-itself s }

pub settled-more : (g : SettingsFields) (found found' : List Candidate) (best best' : Option ℕ) (c : StateFields) →
    ((x : Candidate) → Contains found x → Contains found' x) → Rises best best' → IsSettled g (Stands found) best c → IsSettled g (Stands found') best' c
settled-more g found found' best best' c keeps rises h =
    settled-moved g (Stands found) (Stands found') best best' c (λ s there. inr (covered-itself (Stands found') s (stands-kept found found' keeps s there))) rises h

-- a state that is over completes only where it is complete
no_better-over : (g : SettingsFields) (c : StateFields) (best : Option ℕ) → is_over g c ≡ true →
    (is_complete g c ≡ true → IsAtMost (counted g c) best) → NoBetter g c best
no_better-over g c best over most m last ran full =
    let nil = over_nil g c last m over ran in
    let e : c ≡ last = some_same c last (subst (λ (n : List Action). run_of g c n ≡ Some last) nil ran) in
    subst (λ (s : StateFields). IsAtMost (counted g s) best) e (most (subst (λ (s : StateFields). is_complete g s ≡ true) (sym e) full))

visits_nothing : (g : SettingsFields) (allows : StateFields → Type 0) (from c : StateFields) (found : List Candidate) (best : Option ℕ) → NoBetter g c best → Visits g allows from c found found best best
visits_nothing g allows from c found best none = record {
  settled = inl none;
  keeps = λ x h. h;
  fresh = λ x h. inl h;
  waits = λ h. h;
  rises = rises-itself best;
  becomes = inl refl;
}

not_above : (q : ℕ) (best : Option ℕ) → is_above q best ≡ false → IsAtMost q best
not_above q None cut = absurd (clash refl cut)
not_above q (Some b) cut = grind (arith, nat_tests)

pub not_above_itself : (q : ℕ) → is_above q (Some q) ≡ false
not_above_itself q = grind (arith, nat_tests)

above_rises : (q : ℕ) (best : Option ℕ) → is_above q best ≡ true → Rises best (Some q)
above_rises q None above = tt
above_rises q (Some b) above = grind (arith, nat_tests)

pub visits_better : (g : SettingsFields) (allows : StateFields → Type 0) (from c : StateFields) (found : List Candidate) (best : Option ℕ) → IsReachable g from c → is_complete g c ≡ true →
    is_above (counted g c) best ≡ true → Visits g allows from c found found best (Some (counted g c))
visits_better g allows from c found best reachable full above = record {
  settled = inl (no_better-over g c (Some (counted g c)) (or_left _ _ full) (λ full'. omega arith));
  keeps = λ x h. h;
  fresh = λ x h. inl h;
  waits = λ h. h;
  rises = above_rises (counted g c) best above;
  becomes = inr (record { actions = reachable.actions; completes = record { last = c; ran = reachable.runs; complete = full }; same = refl });
}

pub visits_worse : (g : SettingsFields) (allows : StateFields → Type 0) (from c : StateFields) (found : List Candidate) (best : Option ℕ) → is_complete g c ≡ true →
    is_above (counted g c) best ≡ false → Visits g allows from c found found best best
visits_worse g allows from c found best full cut =
    visits_nothing g allows from c found best (no_better-over g c best (or_left _ _ full) (λ full'. not_above (counted g c) best cut))

pub visits_dead : (g : SettingsFields) (allows : StateFields → Type 0) (from c : StateFields) (found : List Candidate) (best : Option ℕ) → is_over g c ≡ true → is_complete g c ≡ false →
    Visits g allows from c found found best best
visits_dead g allows from c found best over part = visits_nothing g allows from c found best (no_better-over g c best over (λ full. absurd (clash full part)))

pub visits_none : (g : SettingsFields) (allows : StateFields → Type 0) (from c : StateFields) (found : List Candidate) (best : Option ℕ) → NoBetter g c None →
    Visits g allows from c found found best best
visits_none g allows from c found best none = visits_nothing g allows from c found best (no_better-rises g c None best none tt)

pub no_better-limited : (g : SettingsFields) (c : StateFields) (limit : ℕ) → NoBetter g c (Some limit) → NoBetter g c (Some (min (cap_of g) limit))
no_better-limited g c limit h m last ran full =
    let low : counted g last ≤ limit = h m last ran full in
    let high : counted g last ≤ cap_of g = omega arith in
    omega (arith, low, high)

pub visits_cut : (g : SettingsFields) (allows : StateFields → Type 0) (from c : StateFields) (found : List Candidate) (limit : ℕ) (best : Option ℕ) → NoBetter g c (Some limit) →
    is_above (min (cap_of g) limit) best ≡ false → Visits g allows from c found found best best
visits_cut g allows from c found limit best none cut =
    visits_nothing g allows from c found best (no_better-cut g c (min (cap_of g) limit) best (no_better-limited g c limit none) cut)

pub visits_found : (g : SettingsFields) (allows : StateFields → Type 0) (from c : StateFields) (limit rank : ℕ) (found : List Candidate) (best : Option ℕ) →
    IsChild g allows from c → is_over g c ≡ false → NoBetter g c (Some limit) → Visits g allows from c found (found ++ (record { state = c; limit = limit; rank = rank }) ∷ []) best best
visits_found g allows from c limit rank found best child live none =
    let next : Candidate = record { state = c; limit = limit; rank = rank } in
    let here : IsOpen g c = record { within = child.within; live = live } in
    record {
      settled = inr (covered-itself (Stands (found ++ next ∷ [])) c (record { candidate = next; there = Contains-push found next; same = refl }));
      keeps = λ x h. Contains-append_left found (next ∷ []) x h;
      fresh = λ x h. elim (Contains-push_cases found next x h) [ inl old ↦ inl old | inr e ↦ inr (ap (λ (y : Candidate). y.state) (sym e)) ];
      waits = λ h. All-push (IsWaiting g allows from) found next h (record { reachable = child.reachable; open_state = here; allowed = child.allowed here; most = none });
      rises = rises-itself best;
      becomes = inl refl;
    }

-- one action
pub acts_nothing : (g : SettingsFields) (allows : StateFields → Type 0) (from s : StateFields) (action : Action) (found : List Candidate) (best : Option ℕ) → is_legal g s action ≡ false →
    Expands g allows from s (action ∷ []) found found best best
acts_nothing g allows from s action found best illegal = record {
  expanded = λ a there legal. absurd (clash (subst (λ (x : Action). is_legal g s x ≡ true) (sym (contains_one action a there)) legal) illegal);
  keeps = λ x h. h;
  fresh = λ x h. inl h;
  waits = λ h. h;
  rises = rises-itself best;
  becomes = inl refl;
}

pub acts_child : (g : SettingsFields) (allows : StateFields → Type 0) (from s : StateFields) (action : Action) (found found' : List Candidate) (best best' : Option ℕ) → is_legal g s action ≡ true →
    Visits g allows from (step_of g s action) found found' best best' → Expands g allows from s (action ∷ []) found found' best best'
acts_child g allows from s action found found' best best' legal v = record {
  expanded = λ a there legal'. subst (λ (x : Action). IsSettled g (Stands found') best' (step_of g s x)) (contains_one action a there) v.settled;
  keeps = v.keeps;
  fresh = λ x h. elim (v.fresh x h) [ inl old ↦ inl old | inr e ↦ inr (record { action = action; legal = legal; same = e }) ];
  waits = v.waits;
  rises = v.rises;
  becomes = v.becomes;
}

pub child_of : (g : SettingsFields) (allows : StateFields → Type 0) (from s c : StateFields) (action : Action) → IsReachable g from s → is_legal g s action ≡ true → c ≡ step_of g s action →
    IsReachable g from c
child_of g allows from s c action r legal same = record {
  actions = r.actions ++ action ∷ [];
  runs = run_of-snoc g from s r.actions action r.runs legal ∙ ap (λ (t : StateFields). Some t) (sym same);
}

-- some actions after others
pub expands-none : (g : SettingsFields) (allows : StateFields → Type 0) (from s : StateFields) (found : List Candidate) (best : Option ℕ) → Expands g allows from s [] found found best best
expands-none g allows from s found best = record {
  expanded = λ a there legal. absurd (contains_nil a there);
  keeps = λ x h. h;
  fresh = λ x h. inl h;
  waits = λ h. h;
  rises = rises-itself best;
  becomes = inl refl;
}

pub expands-append : (g : SettingsFields) (allows : StateFields → Type 0) (from s : StateFields) (first second : List Action) (a b c : List Candidate) (p q r : Option ℕ) →
    Expands g allows from s first a b p q → Expands g allows from s second b c q r → Expands g allows from s (first ++ second) a c p r
expands-append g allows from s first second a b c p q r h k = record {
  expanded = λ x there legal. elim (Contains-append_cases first second x there) [
    | inl before ↦ settled-more g b c q r (step_of g s x) k.keeps k.rises (h.expanded x before legal)
    | inr after ↦ k.expanded x after legal
  ];
  keeps = λ x there. k.keeps x (h.keeps x there);
  fresh = λ x there. elim (k.fresh x there) [ inl before ↦ h.fresh x before | inr next ↦ inr next ];
  waits = λ w. k.waits (h.waits w);
  rises = rises-trans p q r h.rises k.rises;
  becomes = becomes-trans g from p q r h.becomes k.becomes;
}

pub expands-next : (g : SettingsFields) (allows : StateFields → Type 0) (from s : StateFields) (xs : List Action) (i : ℕ) (d : Action) (a b c : List Candidate) (p q r : Option ℕ) → i < length xs →
    Expands g allows from s (take i xs) a b p q → Expands g allows from s (get_or xs i d ∷ []) b c q r → Expands g allows from s (take (i + 1) xs) a c p r
expands-next g allows from s xs i d a b c p q r inside h k =
    subst (λ (l : List Action). Expands g allows from s l a c p r) (sym (take_more xs i d inside)) (expands-append g allows from s (take i xs) (get_or xs i d ∷ []) a b c p q r h k)

-- all actions
pub expands-all : (g : SettingsFields) (allows : StateFields → Type 0) (from s : StateFields) (found found' : List Candidate) (best best' : Option ℕ) →
    Expands g allows from s all_actions found found' best best' → IsExpanded g (Stands found') best' s
expands-all g allows from s found found' best best' h a legal = h.expanded a (Among-Contains all_actions a (Among-all_actions a)) legal

-- one more state of a batch
pub explores-none : (g : SettingsFields) (allows : StateFields → Type 0) (from : StateFields) (best : Option ℕ) → Explores g allows from [] [] best best
explores-none g allows from best = record {
  expanded = λ p there. absurd (contains_nil p there);
  fresh = λ x there. absurd (contains_nil x there);
  waits = All-nil (IsWaiting g allows from);
  rises = rises-itself best;
  becomes = inl refl;
}

pub explores-more : (g : SettingsFields) (allows : StateFields → Type 0) (from : StateFields) (batch : List Candidate) (parent : Candidate) (found found' : List Candidate) (best middle best' : Option ℕ) →
    Explores g allows from batch found best middle → Expands g allows from parent.state all_actions found found' middle best' → Explores g allows from (batch ++ parent ∷ []) found' best best'
explores-more g allows from batch parent found found' best middle best' h e = record {
  expanded = λ p there. elim (Contains-push_cases batch parent p there) [
    | inl before ↦ λ a legal. settled-more g found found' middle best' (step_of g p.state a) e.keeps e.rises (h.expanded p before a legal)
    | inr same ↦ subst (λ (x : Candidate). IsExpanded g (Stands found') best' x.state) same (expands-all g allows from parent.state found found' middle best' e)
  ];
  fresh = λ x there. elim (e.fresh x there) [
    | inl before ↦ let f = h.fresh x before in record { parent = f.parent; there = Contains-append_left batch (parent ∷ []) f.parent f.there; next = f.next }
    | inr next ↦ record { parent = parent; there = Contains-push batch parent; next = next }
  ];
  waits = e.waits h.waits;
  rises = rises-trans best middle best' h.rises e.rises;
  becomes = becomes-trans g from best middle best' h.becomes e.becomes;
}
