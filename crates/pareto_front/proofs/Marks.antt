-- Marks by place.
use Rattle.std.proofs.Common.{◌≡◌, ◌∙◌, ℕ, ◌+◌, ◌<◌, ◌≤◌, ◌==◌, ◌||◌, Bool, true, false, List, [], ◌∷◌, ◌++◌, length, get_or, set, take, drop, append-nil, inl, inr, arith, refl, ap, sym, subst}
use Rattle.plain_lemmas.proofs.Tests.{eq_to, other_number, same_or_other}
use Rattle.std.specs.List.{list_any}
use Rattle.std.proofs.lemmas.List.{take_more, take_all, drop_all, length-set, get_or-set_same, get_or-set_other}
use Rattle.pareto_front.specs.declared.parts.Entry.{Entry}
use Rattle.pareto_front.specs.Parts.{has_place, AreMarked, AreMarks}

pub any-append : {X : Type 0} (t : X → Bool) (xs ys : List X) → list_any t (xs ++ ys) ≡ (list_any t xs || list_any t ys)
any-append t [] ys = refl
any-append t (x ∷ xs) ys = elim (t x) as (λ b. (b || list_any t (xs ++ ys)) ≡ ((b || list_any t xs) || list_any t ys)) [ true ↦ refl | false ↦ any-append t xs ys ]

or_false : (b : Bool) → (b || false) ≡ b
or_false true = refl
or_false false = refl

or_assoc : (a b c : Bool) → ((a || b) || c) ≡ (a || (b || c))
or_assoc true b c = refl
or_assoc false b c = refl

-- one more element of a list that is taken
pub any-more : {X : Type 0} (t : X → Bool) (xs : List X) (i : ℕ) (x : X) → i < length xs → x ≡ get_or xs i x → list_any t (take (i + 1) xs) ≡ (list_any t (take i xs) || t x)
any-more t xs i x inside is =
    ap (list_any t) (take_more xs i x inside) ∙ any-append t (take i xs) (get_or xs i x ∷ []) ∙ ap (λ b. list_any t (take i xs) || b) (or_false (t (get_or xs i x)) ∙ ap t (sym is))

set_here : (b : Bool) → (b || true) ≡ true
set_here true = refl
set_here false = refl

abbrev pub blank_entry : Entry
blank_entry = record { key = 0; place = 0; seconds = 0; numbers = record { cp = 0; durability = 0; quality = 0 } }

-- the next place is marked
pub marked-set : (places : List ℕ) (i : ℕ) (x : ℕ) (before now : List Bool) → i < length places → x ≡ get_or places i x → x < length now →
    AreMarked (take i places) before now → AreMarked (take (i + 1) places) before (set now x true)
marked-set places i x before now inside is low marked = record {
  as_many = length-set now x true ∙ marked.as_many;
  set = λ j d below. elim (same_or_other j x) [
    | inl here ↦
        let more : has_place j (take (i + 1) places) ≡ (has_place j (take i places) || (x == j)) = any-more (λ p. p == j) places i x inside is in
        let hit : (x == j) ≡ true = subst (λ (k : ℕ). (x == k) ≡ true) (sym here) (eq_to x x refl) in
        subst (λ (k : ℕ). get_or (set now x true) k d ≡ true) (sym here) (get_or-set_same now x true d low)
        ∙ sym (ap (λ b. get_or before j d || b) (more ∙ ap (λ b. has_place j (take i places) || b) hit ∙ set_here (has_place j (take i places))) ∙ set_here (get_or before j d))
    | inr other ↦
        let more : has_place j (take (i + 1) places) ≡ (has_place j (take i places) || (x == j)) = any-more (λ p. p == j) places i x inside is in
        let miss : (x == j) ≡ false = other_number x j (λ e. other (sym e)) in
        get_or-set_other now x j true d other ∙ marked.set j d below
        ∙ sym (ap (λ b. get_or before j d || b) (more ∙ ap (λ b. has_place j (take i places) || b) miss ∙ or_false (has_place j (take i places))))
  ];
}

-- the next place has no mark
pub marked-skip : (places : List ℕ) (i : ℕ) (x : ℕ) (before now : List Bool) → i < length places → x ≡ get_or places i x → length now ≤ x →
    AreMarked (take i places) before now → AreMarked (take (i + 1) places) before now
marked-skip places i x before now inside is high marked = record {
  as_many = marked.as_many;
  set = λ j d below.
      let more : has_place j (take (i + 1) places) ≡ (has_place j (take i places) || (x == j)) = any-more (λ p. p == j) places i x inside is in
      let miss : (x == j) ≡ false = other_number x j (λ e. apart x j (length now) (length before) e high below marked.as_many) in
      marked.set j d below ∙ sym (ap (λ b. get_or before j d || b) (more ∙ ap (λ b. has_place j (take i places) || b) miss ∙ or_false (has_place j (take i places))));
} where
  apart : (p j m n : ℕ) → p ≡ j → m ≤ p → j < n → m ≡ n → ⊥
  apart p j m n e h k f = absurd (omega (arith, e, h, k, f))

-- the next list's places are marked
pub marks-more : (kept : List (List ℕ)) (i : ℕ) (places : List ℕ) (count : ℕ) (before after : List Bool) → i < length kept → places ≡ get_or kept i places →
    AreMarks count (take i kept) before → AreMarked places before after → AreMarks count (take (i + 1) kept) after
marks-more kept i places count before after inside is marks marked = record {
  as_many = marked.as_many ∙ marks.as_many;
  set = λ j d below.
      marked.set j d (omega (arith, below, marks.as_many)) ∙ ap (λ b. b || has_place j places) (marks.set j d below)
      ∙ sym (any-more (has_place j) kept i places inside is);
}

-- a slice that is written whole
pub put_back : {X : Type 0} (xs ys : List X) (n : ℕ) → n ≡ length xs → length ys ≡ length xs → take n (ys ++ drop (length ys) xs) ≡ ys
put_back {X} xs ys n e f =
    ap (λ (l : List X). take n (ys ++ l)) (drop_all (length ys) xs (omega (arith, f))) ∙ ap (take n) (append-nil ys) ∙ take_all n ys (omega (arith, e, f))
