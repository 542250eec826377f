-- What a sweep keeps true, from one place to the next.
use Rattle.std.proofs.Common.{◌≡◌, ◌∙◌, sym, ℕ, ◌+◌, ◌<◌, ◌≤◌, true, false, ◌⊎◌, inl, inr, List, [], ◌∷◌, Option, Some, None, arith, refl, subst, ap, length, length-set, min, Bool, if◌then◌else◌}
use Rattle.std.specs.List.{All, Contains}
use Rattle.std.specs.Option.{IfSome, is_some}
use Rattle.std.proofs.lemmas.List.{get_or_past}
use Rattle.std.proofs.lemmas.Bool.{cases_lt}
use Rattle.std.proofs.lemmas.List.Elements.{All-contains, All-weaker, All-contains_itself}
use Rattle.plain_lemmas.proofs.Tests.{bool_cases, clash}
use Rattle.action_table.specs.declared.action.Action.{Action}
use Rattle.craft_state.specs.Craft.{StateFields}
use Rattle.craft_settings.specs.Ranges.{SettingsFields}
use Rattle.craft_settings.specs.Rules.{cap_of}
use Rattle.step_rules.specs.Legality.{is_complete, is_over}
use Rattle.step_rules.specs.Run.{run_of}
use Rattle.step_rules.specs.Step.{step_of}
use Rattle.step_rules.specs.Macro.{counted}
use Rattle.macro_order.specs.Order.{scored, seconds_of}
use Rattle.prefix_fronts.proofs.Best.{score-says}
use Rattle.quality_sweep.specs.declared.candidate.Candidate.{Candidate}
use Rattle.quality_sweep.specs.Ahead.{IsReachedFrom, IsGreatestFrom, IsGreatestQualityFrom, IsGreatestAbove, NoBetter, is_above}
use Rattle.quality_sweep.specs.Places.{place_of, places_of}
use Rattle.quality_sweep.specs.Shelves.{ShelvesFields, shelf, put_on, cleared, Waits}
use Rattle.quality_sweep.specs.Sweeping.{Becomes, IsWaiting, IsSettled, IsExpanded, Stands, Explores, IsPassedOver, Chooses, Puts, IsSeen, Holds}
use Rattle.quality_sweep.proofs.Completing.{rises-itself, no_better-rises, no_better-cut, settled-moved, left-moved, left-dropped, left-none, left-itself}
use Rattle.quality_sweep.proofs.Exploring.{contains_nil, contains_one, covered-itself, no_better-limited, not_above_itself}
use Rattle.quality_sweep.proofs.Placing.{place-later, place-inside}
use Rattle.quality_sweep.proofs.Putting.{cleared-before, cleared-waits, puts-one}

all_by : {X : Type 0} (P : X → Type 0) (xs : List X) → ((x : X) → Contains xs x → P x) → All P xs
all_by P xs h = All-weaker (λ x. Contains xs x) P h xs (All-contains_itself xs)

empty_by : {X : Type 0} (xs : List X) → ((x : X) → Contains xs x → ⊥) → xs ≡ []
empty_by [] none = refl
empty_by (x ∷ xs) none = absurd (none x (0, omega arith, refl))

-- found candidates have their places on the shelves
pub found-fit : (g : SettingsFields) (allows : StateFields → Type 0) (from : StateFields) (w count : ℕ) (found : List Candidate) → 1 ≤ w → count ≡ places_of w g → All (IsWaiting g allows from) found →
    All (λ c. place_of w c.state < count) found
found-fit g allows from w count found some same waits =
    all_by (λ c. place_of w c.state < count) found (λ c there.
    let one = All-contains (IsWaiting g allows from) found c waits there in
    subst (λ (n : ℕ). place_of w c.state < n) (sym same) (place-inside g w c.state some one.open_state.within))

pub chosen-wait : (g : SettingsFields) (allows : StateFields → Type 0) (from : StateFields) (batch chosen : List Candidate) (best : Option ℕ) (kept kept' : List StateFields) → Chooses g batch best kept kept' [] chosen →
    All (IsWaiting g allows from) batch → All (IsWaiting g allows from) chosen
chosen-wait g allows from batch chosen best kept kept' ch waits = all_by (IsWaiting g allows from) chosen (λ c there. elim (ch.among c there) [
  | inl none ↦ absurd (contains_nil c none)
  | inr here ↦ All-contains (IsWaiting g allows from) batch c waits here
])

-- the states of one place were looked at
pub turn : (g : SettingsFields) (allows : StateFields → Type 0) (from : StateFields) (place : ℕ) (kept kept' : List StateFields) (sh sh' : ShelvesFields) (best best' : Option ℕ) (batch chosen found : List Candidate) →
    place < length sh.lists → Holds g allows from place kept sh best →
    ((c : Candidate) → Contains (shelf sh place) c → Contains batch c) → ((c : Candidate) → Contains batch c → Contains (shelf sh place) c) →
    Chooses g batch best kept kept' [] chosen → Explores g allows from chosen found best best' → Puts found (cleared sh place) sh' → Holds g allows from (place + 1) kept' sh' best'
turn g allows from place kept kept' sh sh' best best' batch chosen found inside h all only ch e p = record {
  start = left-moved g (IsSeen kept sh) (IsSeen kept' sh') best best' from moved e.rises h.start;
  live = λ k there. elim (ch.fresh k there) [
    | inl old ↦ h.live k old
    | inr new ↦ subst (λ (s : StateFields). is_over g s ≡ false) new.same (on_shelf new.candidate (was_there new.candidate new.there)).open_state.live
  ];
  each = λ k there. elim (ch.fresh k there) [
    | inl old ↦ λ a legal. settled-moved g (IsSeen kept sh) (IsSeen kept' sh') best best' (step_of g k a) moved e.rises (h.each k old a legal)
    | inr new ↦ subst (λ (s : StateFields). IsExpanded g (IsSeen kept' sh') best' s) new.same
        (λ a legal. settled-moved g (Stands found) (IsSeen kept' sh') best' best' (step_of g new.candidate.state a) stored (rises-itself best') (e.expanded new.candidate new.there a legal))
  ];
  waits = λ i. all_by (IsWaiting g allows from) (shelf sh' i) (λ x there. elim (p.fresh i x there) [
    | inl before ↦ All-contains (IsWaiting g allows from) (shelf sh i) x (h.waits i) (cleared-before sh place i x inside before).0
    | inr new ↦ All-contains (IsWaiting g allows from) found x e.waits new.0
  ]);
  placed = λ i x there. subst (λ (w : ℕ). place_of w x.state ≡ i) (sym p.width) (elim (p.fresh i x there) [
    | inl before ↦ h.placed i x (cleared-before sh place i x inside before).0
    | inr new ↦ new.1
  ]);
  done = λ i low. empty_by (shelf sh' i) (λ x there. elim (p.fresh i x there) [
    | inl before ↦ old_empty i x low (cleared-before sh place i x inside before)
    | inr new ↦ later i x low new.0 new.1
  ]);
  width = subst (λ (w : ℕ). 1 ≤ w) (sym p.width) h.width;
  count = p.count ∙ length-cleared ∙ h.count ∙ ap (λ (w : ℕ). places_of w g) (sym p.width);
}
  where
    length-cleared : length (cleared sh place).lists ≡ length sh.lists
    length-cleared = length-set sh.lists place []

    was_there : (c : Candidate) → Contains chosen c → Contains batch c
    was_there c there = elim (ch.among c there) [ inl none ↦ absurd (contains_nil c none) | inr here ↦ here ]

    on_shelf : (c : Candidate) → Contains batch c → IsWaiting g allows from c
    on_shelf c there = All-contains (IsWaiting g allows from) (shelf sh place) c (h.waits place) (only c there)

    looked_at : (c : Candidate) → Contains batch c → IsPassedOver g kept' best c → IsSettled g (IsSeen kept' sh') best' c.state
    looked_at c there (inl cut) =
        inl (no_better-rises g c.state best best' (no_better-cut g c.state (min (cap_of g) c.limit) best (no_better-limited g c.state c.limit (on_shelf c there).most) cut) e.rises)
    looked_at c there (inr covered) = inr (record { cover = covered.cover; is_there = inl covered.is_kept; not_less = covered.not_less })

    moved : (s : StateFields) → IsSeen kept sh s → IsSettled g (IsSeen kept' sh') best' s
    moved s (inl old) = inr (covered-itself (IsSeen kept' sh') s (inl (ch.keeps s old)))
    moved s (inr w) = elim (cleared-waits sh place s w) [
      | inl here ↦ subst (λ (t : StateFields). IsSettled g (IsSeen kept' sh') best' t) w.same (looked_at w.candidate (all w.candidate here) (ch.each w.candidate (all w.candidate here)))
      | inr still ↦ inr (covered-itself (IsSeen kept' sh') s (inr (p.keeps s still)))
    ]

    stored : (s : StateFields) → Stands found s → IsSettled g (IsSeen kept' sh') best' s
    stored s x = inr (covered-itself (IsSeen kept' sh') s (inr (subst (λ (t : StateFields). Waits sh' t) x.same (p.each x.candidate x.there))))

    old_empty : (i : ℕ) (x : Candidate) → i < place + 1 → Contains (shelf sh i) x × (i ≡ place → ⊥) → ⊥
    old_empty i x low before = elim (cases_lt i place) [
      | inl less ↦ contains_nil x (subst (λ (l : List Candidate). Contains l x) (h.done i less) before.0)
      | inr more ↦ before.1 (omega arith)
    ]

    later : (i : ℕ) (x : Candidate) → i < place + 1 → Contains found x → place_of (cleared sh place).width x.state ≡ i → ⊥
    later i x low there at =
        let f = e.fresh x there in
        let parent = on_shelf f.parent (was_there f.parent f.there) in
        let was : place_of sh.width f.parent.state ≡ place = h.placed place f.parent (only f.parent (was_there f.parent f.there)) in
        let after : place_of sh.width f.parent.state < place_of sh.width x.state =
        subst (λ (s : StateFields). place_of sh.width f.parent.state < place_of sh.width s) (sym f.next.same)
        (place-later g sh.width f.parent.state f.next.action h.width parent.open_state.within f.next.legal)
        in
        absurd (omega (arith, was, after, at, low))

-- the kept states are forgotten
pub forgotten : (g : SettingsFields) (allows : StateFields → Type 0) (from : StateFields) (place : ℕ) (kept : List StateFields) (sh : ShelvesFields) (best : Option ℕ) → Holds g allows from place kept sh best → Holds g allows from place [] sh best
forgotten g allows from place kept sh best h = record {
  start =
      left-moved g (Waits sh) (IsSeen [] sh) best best from (λ s w. inr (covered-itself (IsSeen [] sh) s (inr w))) (rises-itself best)
      (left-dropped g (Contains kept) (Waits sh) best from h.live h.each h.start);
  live = λ k there. absurd (contains_nil k there);
  each = λ k there. absurd (contains_nil k there);
  waits = h.waits;
  placed = h.placed;
  done = h.done;
  width = h.width;
  count = h.count;
}

pub entered : (g : SettingsFields) (allows : StateFields → Type 0) (from : StateFields) (place : ℕ) (kept kept' : List StateFields) (sh : ShelvesFields) (best : Option ℕ) → (kept' ≡ kept) ⊎ (kept' ≡ []) → Holds g allows from place kept sh best →
    Holds g allows from place kept' sh best
entered g allows from place kept kept' sh best (inl same) h = subst (λ (k : List StateFields). Holds g allows from place k sh best) (sym same) h
entered g allows from place kept kept' sh best (inr none) h = subst (λ (k : List StateFields). Holds g allows from place k sh best) (sym none) (forgotten g allows from place kept sh best h)

-- at the start
pub begins : (g : SettingsFields) (allows : StateFields → Type 0) (from : StateFields) (c : Candidate) (sh sh' : ShelvesFields) (best : Option ℕ) → IsWaiting g allows from c → c.state ≡ from → 1 ≤ sh.width → length sh.lists ≡ places_of sh.width g →
    ((i : ℕ) → shelf sh i ≡ []) → sh' ≡ put_on sh c → Holds g allows from 0 [] sh' best
begins g allows from c sh sh' best waits same some count empty is = subst (λ (t : ShelvesFields). Holds g allows from 0 [] t best) (sym is) record {
  start = left-itself g (IsSeen [] (put_on sh c)) best from (inr (subst (λ (s : StateFields). Waits (put_on sh c) s) same (p.each c here)));
  live = λ k there. absurd (contains_nil k there);
  each = λ k there. absurd (contains_nil k there);
  waits = λ i. all_by (IsWaiting g allows from) (shelf (put_on sh c) i) (λ x there. subst (λ (y : Candidate). IsWaiting g allows from y) (contains_one c x (only i x there).0) waits);
  placed = λ i x there. (only i x there).1;
  done = λ i low. absurd (omega arith);
  width = some;
  count = p.count ∙ count;
}
  where
    inside : place_of sh.width c.state < length sh.lists
    inside = subst (λ (n : ℕ). place_of sh.width c.state < n) (sym count) (place-inside g sh.width c.state some waits.open_state.within)

    p : Puts (c ∷ []) sh (put_on sh c)
    p = puts-one sh c inside

    here : Contains (c ∷ []) c
    here = (0, omega arith, refl)

    only : (i : ℕ) (x : Candidate) → Contains (shelf (put_on sh c) i) x → Contains (c ∷ []) x × (place_of sh.width x.state ≡ i)
    only i x there = elim (p.fresh i x there) [
      | inl old ↦ absurd (contains_nil x (subst (λ (l : List Candidate). Contains l x) (empty i) old))
      | inr new ↦ (new.0, new.1)
    ]

-- where no state waits any more
pub ends : (g : SettingsFields) (allows : StateFields → Type 0) (from : StateFields) (place : ℕ) (kept : List StateFields) (sh : ShelvesFields) (best : Option ℕ) → length sh.lists ≤ place → Holds g allows from place kept sh best → NoBetter g from best
ends g allows from place kept sh best all h = left-none g (Waits sh) best from none (left-dropped g (Contains kept) (Waits sh) best from h.live h.each h.start)
  where
    none : (s : StateFields) → Waits sh s → ⊥
    none s w = elim (cases_lt w.place place) [
      | inl low ↦ contains_nil w.candidate (subst (λ (l : List Candidate). Contains l w.candidate) (h.done w.place low) w.there)
      | inr high ↦ contains_nil w.candidate (subst (λ (l : List Candidate). Contains l w.candidate) (get_or_past sh.lists w.place [] (omega arith)) w.there)
    ]

-- where no completion has more quality than a number, this is the greatest
pub greatest-by : (g : SettingsFields) (from : StateFields) (q : ℕ) → NoBetter g from (Some q) → IsGreatestFrom g from q
greatest-by g from q most m b scored_as =
    let says = score-says g m (run_of g from m) b scored_as in
    let high : counted g says.last ≤ q = most m says.last says.ran says.full in
    subst (λ (n : ℕ). n ≤ q) (sym says.quality) high

nothing : (g : SettingsFields) (m : List Action) (o : Option StateFields) → ((last : StateFields) → o ≡ Some last → is_complete g last ≡ true → ⊥) → scored g m o ≡ None
nothing g m None none = refl
nothing g m (Some last) none =
    elim (bool_cases (is_complete g last)) [
      | inl full ↦ absurd (none last refl full)
      | inr part ↦ ap (λ (b : Bool). if b then Some (record { quality = counted g last; steps = length m; seconds = seconds_of m }) else None) part
    ]

pub greatest-reached : (g : SettingsFields) (from : StateFields) (best : Option ℕ) → NoBetter g from best → IfSome best (IsReachedFrom g from) → IsGreatestQualityFrom g from best
greatest-reached g from None most reached = λ m. nothing g m (run_of g from m) (λ last ran full. most m last ran full)
greatest-reached g from (Some q) most reached = (reached, greatest-by g from q most)

-- the answer of a sweep
pub found-above : (g : SettingsFields) (from : StateFields) (floor best : Option ℕ) (q : ℕ) → NoBetter g from best → Becomes g from floor best → best ≡ Some q → is_above q floor ≡ true → IsGreatestAbove g from floor (Some q)
found-above g from floor best q most becomes is above = (above, reached becomes, greatest-by g from q (subst (λ (o : Option ℕ). NoBetter g from o) is most))
  where
    reached : Becomes g from floor best → IsReachedFrom g from q
    reached (inl same) = absurd (clash above (ap (is_above q) (sym same ∙ is) ∙ not_above_itself q))
    reached (inr h) = subst (λ (o : Option ℕ). IfSome o (IsReachedFrom g from)) is h

pub none-above : (g : SettingsFields) (from : StateFields) (floor best : Option ℕ) (q : ℕ) → NoBetter g from best → best ≡ Some q → is_above q floor ≡ false → IsGreatestAbove g from floor None
none-above g from floor best q most is cut = no_better-cut g from q floor (subst (λ (o : Option ℕ). NoBetter g from o) is most) cut

pub none-at_all : (g : SettingsFields) (from : StateFields) (floor best : Option ℕ) → NoBetter g from best → best ≡ None → IsGreatestAbove g from floor None
none-at_all g from floor best most is = no_better-rises g from None floor (subst (λ (o : Option ℕ). NoBetter g from o) is most) tt

-- where the best quality is the cap
pub no_better-cap : (g : SettingsFields) (s : StateFields) → NoBetter g s (Some (cap_of g))
no_better-cap g s m last ran full = omega arith

-- the answer of a sweep that found more than its floor, and of one that found nothing above what was reached
pub above-some : (g : SettingsFields) (from : StateFields) (floor found : Option ℕ) → IsGreatestAbove g from floor found → is_some found ≡ true → IsGreatestQualityFrom g from found
above-some g from floor None h some = absurd (clash some refl)
above-some g from floor (Some q) h some = (h.1, h.2)

pub above-none : (g : SettingsFields) (from : StateFields) (floor found : Option ℕ) → IsGreatestAbove g from floor found → is_some found ≡ false → IfSome floor (IsReachedFrom g from) → IsGreatestQualityFrom g from floor
above-none g from floor None h none reached = greatest-reached g from floor h reached
above-none g from floor (Some q) h none reached = absurd (clash refl none)

-- the cap is reached
pub at-cap : (g : SettingsFields) (from : StateFields) (reached : Option ℕ) → is_above (cap_of g) reached ≡ false → IfSome reached (IsReachedFrom g from) → IsGreatestQualityFrom g from reached
at-cap g from reached cut is = greatest-reached g from reached (no_better-cut g from (cap_of g) reached (no_better-cap g from) cut) is
