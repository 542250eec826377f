-- Completions from states that are not less, and what is left to do where others are looked at.
use Rattle.std.proofs.Common.{◌≡◌, ◌∙◌, sym, ℕ, ◌≤◌, true, false, ◌⊎◌, inl, inr, List, [], ◌∷◌, Option, Some, None, if◌then◌else◌, arith, refl, subst, ap}
use Rattle.std.proofs.lemmas.Bool.Decides.{nat_tests}
use Rattle.plain_lemmas.proofs.Tests.{bool_cases, clash, or_left, some_same}
use Rattle.action_table.specs.declared.action.Action.{Action}
use Rattle.craft_state.specs.Craft.{StateFields}
use Rattle.craft_state.specs.NotLess.{IsNotLess}
use Rattle.craft_settings.specs.Ranges.{SettingsFields}
use Rattle.step_rules.specs.Legality.{is_complete, is_over, is_legal}
use Rattle.step_rules.specs.Run.{run_of}
use Rattle.step_rules.specs.Step.{step_of}
use Rattle.step_rules.specs.Macro.{counted}
use Rattle.step_rules.proofs.LegalFacts.{legal_facts}
use Rattle.admissible.proofs.Reached.{ran}
use Rattle.dominance.proofs.Children.{is_legal-not_less, IsNotLess-step}
use Rattle.dominance.proofs.Finishing.{finishes-not_less}
use Rattle.quality_sweep.specs.Ahead.{IsAtMost, NoBetter, is_above}
use Rattle.quality_sweep.specs.Sweeping.{Rises, IsSettled, IsExpanded, IsLeft, IsLeftTo}
use Rattle.prefix_fronts.proofs.Dominance.{IsNotLess-trans}

-- a run that goes on begins with a legal action
pub run_parts : (g : SettingsFields) (s last : StateFields) (x : Action) (m : List Action) →
    run_of g s (x ∷ m) ≡ Some last → (is_legal g s x ≡ true) × (run_of g (step_of g s x) m ≡ Some last)
run_parts g s last x m h = ran (is_legal g s x) (run_of g (step_of g s x) m) last h

-- nothing runs from a state that is over
pub over_nil : (g : SettingsFields) (s last : StateFields) (m : List Action) → is_over g s ≡ true → run_of g s m ≡ Some last → m ≡ []
over_nil g s last [] over h = refl
over_nil g s last (x ∷ m) over h =
    let parts = run_parts g s last x m h in
    absurd (clash over (legal_facts g s x parts.0).live)

-- the same actions complete from a state that isn't less, with no less quality
pub record Matches (g : SettingsFields) (a : StateFields) (m : List Action) (last : StateFields) : Type 0 where
  pub finish : StateFields
  pub runs : run_of g a m ≡ Some finish
  pub complete : is_complete g finish ≡ true
  pub quality : last.quality ≤ finish.quality

matches_here : (g : SettingsFields) (a b : StateFields) → IsNotLess a b → is_complete g b ≡ true → Matches g a [] b
matches_here g a b not_less full = record {
  finish = a;
  runs = refl;
  complete = rw not_less.progress full;
  quality = not_less.quality;
}

pub matched : (g : SettingsFields) (m : List Action) (a b last : StateFields) → IsNotLess a b → run_of g b m ≡ Some last → is_complete g last ≡ true → Matches g a m last
matched g [] a b last not_less h full =
    let e : b ≡ last = cc in
    subst (λ (s : StateFields). Matches g a [] s) e (matches_here g a b not_less (subst (λ (s : StateFields). is_complete g s ≡ true) (sym e) full))
matched g (x ∷ m) a b last not_less h full =
    let parts = run_parts g b last x m h in
    let legal : is_legal g a x ≡ true = is_legal-not_less g a b x not_less parts.0 in
    let rest = matched g m (step_of g a x) (step_of g b x) last in
    let found : Matches g (step_of g a x) m last =
    elim (bool_cases (is_over g (step_of g b x))) [
      | inl over ↦
          let nil = over_nil g (step_of g b x) last m over parts.1 in
          let e : step_of g b x ≡ last = some_same _ _ (subst (λ (n : List Action). run_of g (step_of g b x) n ≡ Some last) nil parts.1) in
          let f = finishes-not_less g a b x not_less (subst (λ (s : StateFields). is_complete g s ≡ true) (sym e) full) in
          subst (λ (n : List Action). Matches g (step_of g a x) n last) (sym nil)
          (subst (λ (s : StateFields). Matches g (step_of g a x) [] s) e (record { finish = step_of g a x; runs = refl; complete = f.complete; quality = f.quality }))
      | inr live ↦ rest (IsNotLess-step g a b x not_less live) parts.1 full
    ]
    in
    record {
      finish = found.finish;
      runs = ap (λ b. if b then run_of g (step_of g a x) m else None) legal ∙ found.runs;
      complete = found.complete;
      quality = found.quality;
    }

pub at_most_le : (p q : ℕ) (best : Option ℕ) → p ≤ q → IsAtMost q best → IsAtMost p best
at_most_le p q None le h = h
at_most_le p q (Some b) le h = omega arith

pub at_most-rises : (q : ℕ) (best best' : Option ℕ) → IsAtMost q best → Rises best best' → IsAtMost q best'
at_most-rises q None best' h rises = absurd h
at_most-rises q (Some b) best' h rises = at_most_le q b best' h rises

pub rises-itself : (best : Option ℕ) → Rises best best
rises-itself None = tt
rises-itself (Some b) = omega arith

pub rises-trans : (a b c : Option ℕ) → Rises a b → Rises b c → Rises a c
rises-trans None b c h k = tt
rises-trans (Some n) b c h k = at_most-rises n b c h k

counted_le : (g : SettingsFields) (s t : StateFields) → s.quality ≤ t.quality → counted g s ≤ counted g t
counted_le g s t le = omega arith

pub no_better-rises : (g : SettingsFields) (s : StateFields) (best best' : Option ℕ) → NoBetter g s best → Rises best best' → NoBetter g s best'
no_better-rises g s best best' h rises m last runs full = at_most-rises _ _ _ (h m last runs full) rises

pub no_better-covered : (g : SettingsFields) (a b : StateFields) (best : Option ℕ) → IsNotLess a b → NoBetter g a best → NoBetter g b best
no_better-covered g a b best not_less h m last runs full =
    let found = matched g m a b last not_less runs full in
    at_most_le _ _ best (counted_le g last found.finish found.quality) (h m found.finish found.runs found.complete)

-- a limit that isn't above the best quality
pub no_better-cut : (g : SettingsFields) (s : StateFields) (limit : ℕ) (best : Option ℕ) → NoBetter g s (Some limit) → is_above limit best ≡ false → NoBetter g s best
no_better-cut g s limit None h cut = absurd (clash refl cut)
no_better-cut g s limit (Some b) h cut = no_better-rises g s (Some limit) (Some b) h (grind (arith, nat_tests))

-- what is settled stays settled where each of the states that settle it is
pub settled-moved : (g : SettingsFields) (P Q : StateFields → Type 0) (best best' : Option ℕ) (c : StateFields) →
    ((s : StateFields) → P s → IsSettled g Q best' s) → Rises best best' → IsSettled g P best c → IsSettled g Q best' c
settled-moved g P Q best best' c moved rises (inl none) = inl (no_better-rises g c best best' none rises)
settled-moved g P Q best best' c moved rises (inr covered) = elim (moved covered.cover covered.is_there) [
  | inl none ↦ inl (no_better-covered g covered.cover c best' covered.not_less none)
  | inr k ↦ inr (record { cover = k.cover; is_there = k.is_there; not_less = IsNotLess-trans k.cover covered.cover c k.not_less covered.not_less })
]

-- and so does what is left to them
pub left-moved : (g : SettingsFields) (P Q : StateFields → Type 0) (best best' : Option ℕ) (s : StateFields) →
    ((t : StateFields) → P t → IsSettled g Q best' t) → Rises best best' → IsLeftTo g P best s → IsLeftTo g Q best' s
left-moved g P Q best best' s moved rises h m last runs full = elim (h m last runs full) [
  | inl low ↦ inl (at_most-rises _ best best' low rises)
  | inr l ↦ elim (moved l.state l.is_there) [
    | inl none ↦ inl (at_most_le _ _ best' l.enough (none l.actions l.last l.ran l.complete))
    | inr k ↦
        let found = matched g l.actions k.cover l.state l.last k.not_less l.ran l.complete in
        let more = counted_le g l.last found.finish found.quality in
        inr (record {
          state = k.cover;
          is_there = k.is_there;
          actions = l.actions;
          last = found.finish;
          ran = found.runs;
          complete = found.complete;
          enough = omega (arith, more, l.enough);
        })
  ]
]

-- a completion of an expanded state is one of the states that settle its children, or no better than the best
pub left-expanded : (g : SettingsFields) (K W : StateFields → Type 0) (best : Option ℕ) →
    ((k : StateFields) → K k → is_over g k ≡ false) → ((k : StateFields) → K k → IsExpanded g (λ s. K s ⊎ W s) best k) →
    (m : List Action) (k last : StateFields) → K k → run_of g k m ≡ Some last → is_complete g last ≡ true → IsAtMost (counted g last) best ⊎ IsLeft g W (counted g last)
left-expanded g K W best live each [] k last there runs full =
    let e : k ≡ last = some_same k last runs in
    absurd (clash (or_left _ _ (subst (λ (s : StateFields). is_complete g s ≡ true) (sym e) full)) (live k there))
left-expanded g K W best live each (x ∷ m) k last there runs full = next (left-expanded g K W best live each m)
  where
    next : ((k last : StateFields) → K k → run_of g k m ≡ Some last → is_complete g last ≡ true → IsAtMost (counted g last) best ⊎ IsLeft g W (counted g last)) → IsAtMost (counted g last) best ⊎ IsLeft g W (counted g last)
    next rest =
        let parts = run_parts g k last x m runs in
        elim (each k there x parts.0) [
          | inl none ↦ inl (none m last parts.1 full)
          | inr covered ↦
              let found = matched g m covered.cover (step_of g k x) last covered.not_less parts.1 full in
              let more = counted_le g last found.finish found.quality in
              elim covered.is_there [
                | inl kept ↦ elim (rest covered.cover found.finish kept found.runs found.complete) [
                  | inl low ↦ inl (at_most_le _ _ best more low)
                  | inr l ↦ inr (record { state = l.state; is_there = l.is_there; actions = l.actions; last = l.last; ran = l.ran; complete = l.complete; enough = omega (arith, more, l.enough) })
                ]
                | inr waits ↦ inr (record { state = covered.cover; is_there = waits; actions = m; last = found.finish; ran = found.runs; complete = found.complete; enough = more })
              ]
        ]

-- so the expanded states may be forgotten
pub left-dropped : (g : SettingsFields) (K W : StateFields → Type 0) (best : Option ℕ) (s : StateFields) →
    ((k : StateFields) → K k → is_over g k ≡ false) → ((k : StateFields) → K k → IsExpanded g (λ t. K t ⊎ W t) best k) → IsLeftTo g (λ t. K t ⊎ W t) best s → IsLeftTo g W best s
left-dropped g K W best s live each h m last runs full = elim (h m last runs full) [
  | inl low ↦ inl low
  | inr l ↦ elim l.is_there [
    | inl kept ↦ elim (left-expanded g K W best live each l.actions l.state l.last kept l.ran l.complete) [
      | inl low ↦ inl (at_most_le _ _ best l.enough low)
      | inr k ↦ inr (record { state = k.state; is_there = k.is_there; actions = k.actions; last = k.last; ran = k.ran; complete = k.complete; enough = omega (arith, l.enough, k.enough) })
    ]
    | inr waits ↦ inr (record { state = l.state; is_there = waits; actions = l.actions; last = l.last; ran = l.ran; complete = l.complete; enough = l.enough })
  ]
]

-- where nothing waits, nothing is left
pub left-none : (g : SettingsFields) (W : StateFields → Type 0) (best : Option ℕ) (s : StateFields) → ((t : StateFields) → W t → ⊥) → IsLeftTo g W best s → NoBetter g s best
left-none g W best s none h m last runs full = elim (h m last runs full) [ inl low ↦ low | inr l ↦ absurd (none l.state l.is_there) ]

-- what waits is left to itself
pub left-itself : (g : SettingsFields) (W : StateFields → Type 0) (best : Option ℕ) (s : StateFields) → W s → IsLeftTo g W best s
left-itself g W best s there m last runs full = inr (record { state = s; is_there = there; actions = m; last = last; ran = runs; complete = full; enough = omega arith })
