-- Shelves after a candidate was put on them, or a shelf was cleared.
use Rattle.std.proofs.Common.{◌≡◌, ◌∙◌, sym, ℕ, ◌<◌, ◌⊎◌, inl, inr, List, [], ◌∷◌, ◌++◌, refl, subst, ap, length, get_or-set_same, get_or-set_other, length-set, set, Vec}
use Rattle.std.specs.List.{Contains}
use Rattle.std.proofs.lemmas.List.Elements.{Contains-append_left, Contains-push, Contains-push_cases, Contains-append_cases, Contains-append_right}
use Rattle.std.proofs.lemmas.List.{map-set}
use Rattle.pareto_front.specs.Lists.{items_of}
use Rattle.plain_lemmas.proofs.Tests.{same_or_other}
use Rattle.craft_state.specs.Craft.{StateFields}
use Rattle.quality_sweep.specs.declared.candidate.Candidate.{Candidate}
use Rattle.quality_sweep.specs.Places.{place_of}
use Rattle.quality_sweep.specs.Shelves.{ShelvesFields, shelf, put_on, cleared, Waits}
use Rattle.quality_sweep.specs.Sweeping.{Puts}
use Rattle.quality_sweep.proofs.Exploring.{contains_nil, contains_one}

-- the shelf at a place holds one more, and each other what it held
pub shelf-same : (sh : ShelvesFields) (c : Candidate) → place_of sh.width c.state < length sh.lists → shelf (put_on sh c) (place_of sh.width c.state) ≡ shelf sh (place_of sh.width c.state) ++ c ∷ []
shelf-same sh c inside = get_or-set_same sh.lists (place_of sh.width c.state) (shelf sh (place_of sh.width c.state) ++ c ∷ []) [] inside

pub shelf-other : (sh : ShelvesFields) (c : Candidate) (place : ℕ) → (place ≡ place_of sh.width c.state → ⊥) → shelf (put_on sh c) place ≡ shelf sh place
shelf-other sh c place other = get_or-set_other sh.lists (place_of sh.width c.state) place (shelf sh (place_of sh.width c.state) ++ c ∷ []) [] other

pub puts-none : (sh : ShelvesFields) → Puts [] sh sh
puts-none sh = record {
  width = refl;
  count = refl;
  each = λ c there. absurd (contains_nil c there);
  keeps = λ s h. h;
  fresh = λ place c there. inl there;
}

pub puts-one : (sh : ShelvesFields) (c : Candidate) → place_of sh.width c.state < length sh.lists → Puts (c ∷ []) sh (put_on sh c)
puts-one sh c inside = record {
  width = refl;
  count = length-set sh.lists (place_of sh.width c.state) (shelf sh (place_of sh.width c.state) ++ c ∷ []);
  each = λ x there. record {
    place = place_of sh.width c.state;
    candidate = c;
    there = subst (λ (l : List Candidate). Contains l c) (sym (shelf-same sh c inside)) (Contains-push (shelf sh (place_of sh.width c.state)) c);
    same = ap (λ (y : Candidate). y.state) (contains_one c x there);
  };
  keeps = λ s w. record { place = w.place; candidate = w.candidate; there = kept w.place w.candidate w.there (same_or_other w.place (place_of sh.width c.state)); same = w.same };
  fresh = λ place x there. new place x there (same_or_other place (place_of sh.width c.state));
}
  where
    kept : (place : ℕ) (x : Candidate) → Contains (shelf sh place) x → (place ≡ place_of sh.width c.state) ⊎ (place ≡ place_of sh.width c.state → ⊥) → Contains (shelf (put_on sh c) place) x
    kept place x there (inl same) =
        subst (λ (l : List Candidate). Contains l x) (sym (ap (shelf (put_on sh c)) same ∙ shelf-same sh c inside))
        (Contains-append_left (shelf sh (place_of sh.width c.state)) (c ∷ []) x (subst (λ (n : ℕ). Contains (shelf sh n) x) same there))
    kept place x there (inr other) = subst (λ (l : List Candidate). Contains l x) (sym (shelf-other sh c place other)) there

    new : (place : ℕ) (x : Candidate) → Contains (shelf (put_on sh c) place) x → (place ≡ place_of sh.width c.state) ⊎ (place ≡ place_of sh.width c.state → ⊥) →
        Contains (shelf sh place) x ⊎ (Contains (c ∷ []) x × (place_of sh.width x.state ≡ place))
    new place x there (inr other) = inl (subst (λ (l : List Candidate). Contains l x) (shelf-other sh c place other) there)
    new place x there (inl same) =
        elim (Contains-push_cases (shelf sh (place_of sh.width c.state)) c x (subst (λ (l : List Candidate). Contains l x) (ap (shelf (put_on sh c)) same ∙ shelf-same sh c inside) there)) [
          | inl old ↦ inl (subst (λ (n : ℕ). Contains (shelf sh n) x) (sym same) old)
          | inr e ↦ inr (subst (λ (y : Candidate). Contains (c ∷ []) y) e (Contains-push [] c), ap (λ (y : Candidate). place_of sh.width y.state) (sym e) ∙ sym same)
        ]

pub puts-append : (xs ys : List Candidate) (a b c : ShelvesFields) → Puts xs a b → Puts ys b c → Puts (xs ++ ys) a c
puts-append xs ys a b c h k = record {
  width = k.width ∙ h.width;
  count = k.count ∙ h.count;
  each = λ x there. elim (Contains-append_cases xs ys x there) [ inl first ↦ k.keeps x.state (h.each x first) | inr second ↦ k.each x second ];
  keeps = λ s w. k.keeps s (h.keeps s w);
  fresh = λ place x there. elim (k.fresh place x there) [
    | inl before ↦ elim (h.fresh place x before) [ inl old ↦ inl old | inr new ↦ inr (Contains-append_left xs ys x new.0, new.1) ]
    | inr new ↦ inr (Contains-append_right xs ys x new.0, subst (λ (w : ℕ). place_of w x.state ≡ place) h.width new.1)
  ];
}

-- a shelf that was cleared is empty, and each other holds what it held
pub cleared-same : (sh : ShelvesFields) (place : ℕ) → place < length sh.lists → shelf (cleared sh place) place ≡ []
cleared-same sh place inside = get_or-set_same sh.lists place [] [] inside

pub cleared-other : (sh : ShelvesFields) (place i : ℕ) → (i ≡ place → ⊥) → shelf (cleared sh place) i ≡ shelf sh i
cleared-other sh place i other = get_or-set_other sh.lists place i [] [] other

-- so what lies on a cleared shelf lay on it before, at another place
pub cleared-before : (sh : ShelvesFields) (place i : ℕ) (x : Candidate) → place < length sh.lists → Contains (shelf (cleared sh place) i) x → Contains (shelf sh i) x × (i ≡ place → ⊥)
cleared-before sh place i x inside there = elim (same_or_other i place) [
  | inl same ↦ absurd (contains_nil x (subst (λ (l : List Candidate). Contains l x) (ap (shelf (cleared sh place)) same ∙ cleared-same sh place inside) there))
  | inr other ↦ (subst (λ (l : List Candidate). Contains l x) (cleared-other sh place i other) there, other)
]

-- what waits lay on the shelf, or still waits
pub cleared-waits : (sh : ShelvesFields) (place : ℕ) (s : StateFields) → (w : Waits sh s) → Contains (shelf sh place) w.candidate ⊎ Waits (cleared sh place) s
cleared-waits sh place s w = elim (same_or_other w.place place) [
  | inl same ↦ inl (subst (λ (n : ℕ). Contains (shelf sh n) w.candidate) same w.there)
  | inr other ↦ inr (record {
    place = w.place;
    candidate = w.candidate;
    there = subst (λ (l : List Candidate). Contains l w.candidate) (sym (cleared-other sh place w.place other)) w.there;
    same = w.same;
  })
]

-- one of the vectors that hold the lists is emptied
pub items-cleared : {X A : Type 0} (vectors : List (Vec X A)) (i : ℕ) (new : Vec X A) → new.items ≡ [] → items_of (set vectors i new) ≡ set (items_of vectors) i []
items-cleared {X} {A} vectors i new none = map-set (λ (v : Vec X A). v.items) vectors i new ∙ ap (set (items_of vectors) i) none
