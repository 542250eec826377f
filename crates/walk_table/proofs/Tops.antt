-- Words as least upper bounds over walks, and how they follow from the first edge.
use Rattle.std.proofs.Common.{ℕ, Bool, true, false, List, [], ◌∷◌, ◌≡◌, ◌≤◌, ◌<◌, ◌+◌, ◌-◌, ◌&&◌, ◌∙◌, nat_le, nat_lt, min, max, refl, ap, sym, subst, arith, cond, eqb, inl, inr}
use Rattle.std.proofs.lemmas.Bool.Decides.{nat_tests}
use Rattle.std.proofs.lemmas.Bool.{cases_lt}
use Rattle.walk_table.specs.Graph.{GraphFields, edge_at, first_of}
use Rattle.walk_table.specs.Walks.{is_walk, is_able, total_cost, total_gain, total_shift}
use Rattle.walk_table.specs.Tops.{word_of, word_before, IsTop}
use Rattle.walk_table.specs.Words.{raised, greatest_word}

-- ---- gains

-- a gain keeps the order
raised-le : (gain a b : ℕ) → a ≤ b → raised gain a ≤ raised gain b
raised-le gain a b le = go (eqb a 0) (eqb b 0) refl refl
  where
    go : (s t : Bool) → eqb a 0 ≡ s → eqb b 0 ≡ t → cond s 0 (min greatest_word (a + gain)) ≤ cond t 0 (min greatest_word (b + gain))
    go true true e f = grind (arith, nat_tests)
    go true false e f = grind (arith, nat_tests)
    go false true e f = grind (arith, nat_tests)
    go false false e f = grind (arith, nat_tests)

-- what a word may be at most, so that it stays within the bound after the gain
lowered : ℕ → ℕ → ℕ
lowered gain bound = cond (nat_lt bound greatest_word) (bound - gain) greatest_word

raised-bound : (gain bound a : ℕ) → a ≤ greatest_word → raised gain a ≤ bound → a ≤ lowered gain bound
unfolding lowered
raised-bound gain bound a cut le = go (nat_lt bound greatest_word) (eqb a 0) refl refl le
  where
    go : (s t : Bool) → nat_lt bound greatest_word ≡ s → eqb a 0 ≡ t → cond t 0 (min greatest_word (a + gain)) ≤ bound → a ≤ cond s (bound - gain) greatest_word
    go true true e f h = grind (arith, nat_tests)
    go true false e f h = grind (arith, nat_tests)
    go false t e f h = cut

bound-raised : (gain bound a : ℕ) → a ≤ lowered gain bound → raised gain a ≤ bound
unfolding lowered
bound-raised gain bound a le = go (nat_lt bound greatest_word) (eqb a 0) refl refl le
  where
    go : (s t : Bool) → nat_lt bound greatest_word ≡ s → eqb a 0 ≡ t → a ≤ cond s (bound - gain) greatest_word → cond t 0 (min greatest_word (a + gain)) ≤ bound
    go s true e f h = omega arith
    go true false e f h = grind (arith, nat_tests)
    go false false e f h = grind (arith, nat_tests)

-- ---- the word of a walk

word_cut : (g : GraphFields) (b e n : ℕ) (w : List ℕ) → word_of g b e n w ≤ greatest_word
word_cut g b e n w = go (is_able g b e n w) (total_gain g w)
  where
    go : (t : Bool) (m : ℕ) → cond t (min greatest_word (1 + m)) 0 ≤ greatest_word
    go true m = omega arith
    go false m = omega arith

first_able : (here ok : Bool) (c t b n s r : ℕ) → c ≤ b → ((here && ok) && (nat_le (c + t) b && nat_le n (s + r))) ≡ (here && (ok && (nat_le t (b - c) && nat_le (n - s) r)))
first_able true ok c t b n s r le = grind (arith, nat_tests)
first_able false ok c t b n s r le = refl

first_word : (t : Bool) (gain rest : ℕ) → cond t (min greatest_word (1 + (gain + rest))) 0 ≡ raised gain (cond t (min greatest_word (1 + rest)) 0)
first_word true gain rest = go (eqb (min greatest_word (1 + rest)) 0) refl
  where
    go : (t : Bool) → eqb (min greatest_word (1 + rest)) 0 ≡ t → min greatest_word (1 + (gain + rest)) ≡ cond t 0 (min greatest_word (min greatest_word (1 + rest) + gain))
    go true e = grind (arith, nat_tests)
    go false e = omega arith
first_word false gain rest = refl

between : (low k high : ℕ) → low ≤ k → k < high → (nat_le low k && nat_lt k high) ≡ true
between low k high h l = grind (arith, nat_tests)

-- a walk whose first edge is paid for: the rest of it, after the edge's gain
pub word-cons : (g : GraphFields) (b e n k : ℕ) (rest : List ℕ) → first_of g e ≤ k → k < first_of g (e + 1) → (edge_at g k).cost ≤ b
    → word_of g b e n (k ∷ rest) ≡ raised (edge_at g k).gain (word_of g (b - (edge_at g k).cost) (edge_at g k).to (n - (edge_at g k).shift) rest)
word-cons g b e n k rest low high paid =
    let edge = edge_at g k in
    let here : (nat_le (first_of g e) k && nat_lt k (first_of g (e + 1))) ≡ true = between (first_of g e) k (first_of g (e + 1)) low high in
    ap (λ t. cond t (min greatest_word (1 + (edge.gain + total_gain g rest))) 0)
    (ap (λ t. (t && is_walk g edge.to rest) && (nat_le (edge.cost + total_cost g rest) b && nat_le n (edge.shift + total_shift g rest))) here
    ∙ first_able true (is_walk g edge.to rest) edge.cost (total_cost g rest) b n edge.shift (total_shift g rest) paid)
    ∙ first_word (is_able g (b - edge.cost) edge.to (n - edge.shift) rest) edge.gain (total_gain g rest)

-- no walk begins with an edge that isn't the node's
outside : (low k high : ℕ) (x y : Bool) (v : ℕ) → (low ≤ k → k < high → ⊥) → cond (((nat_le low k && nat_lt k high) && x) && y) v 0 ≡ 0
outside low k high x y v apart = grind (arith, nat_tests)

pub word-outside : (g : GraphFields) (b e n k : ℕ) (rest : List ℕ) → (first_of g e ≤ k → k < first_of g (e + 1) → ⊥) → word_of g b e n (k ∷ rest) ≡ 0
word-outside g b e n k rest apart = outside (first_of g e) k (first_of g (e + 1)) (is_walk g (edge_at g k).to rest) _ _ apart

-- nor with one that costs too much
costly : (x y : Bool) (c t b v : ℕ) → b < c → cond (x && (nat_le (c + t) b && y)) v 0 ≡ 0
costly x y c t b v more = grind (arith, nat_tests)

pub word-costly : (g : GraphFields) (b e n k : ℕ) (rest : List ℕ) → b < (edge_at g k).cost → word_of g b e n (k ∷ rest) ≡ 0
word-costly g b e n k rest more = costly (is_walk g e (k ∷ rest)) _ (edge_at g k).cost (total_cost g rest) b _ more

-- ---- walks by the place of their first edge

before-yes : (g : GraphFields) (b e n place k : ℕ) (rest : List ℕ) → k < place → word_before g b e n place (k ∷ rest) ≡ word_of g b e n (k ∷ rest)
before-yes g b e n place k rest lt = let yes : nat_lt k place ≡ true = grind (arith, nat_tests) in ap (λ t. cond t (word_of g b e n (k ∷ rest)) 0) yes

before-no : (g : GraphFields) (b e n place k : ℕ) (rest : List ℕ) → place ≤ k → word_before g b e n place (k ∷ rest) ≡ 0
before-no g b e n place k rest le = let none : nat_lt k place ≡ false = grind (arith, nat_tests) in ap (λ t. cond t (word_of g b e n (k ∷ rest)) 0) none

-- more walks begin before the next place
before-more : (g : GraphFields) (b e n place : ℕ) (w : List ℕ) → word_before g b e n place w ≤ word_before g b e n (place + 1) w
before-more g b e n place [] = omega arith
before-more g b e n place (k ∷ rest) = elim (cases_lt k place) [
  | inl lt ↦
      let next : k < place + 1 = omega arith in
      let one = before-yes g b e n place k rest lt in
      let two = before-yes g b e n (place + 1) k rest next in
      omega arith
  | inr ge ↦ let none = before-no g b e n place k rest ge in omega arith
]

abbrev one_if : Bool → ℕ
one_if t = cond t 1 0

empty-is : (b n : ℕ) → one_if (nat_le 0 b && nat_le n 0) ≡ one_if (eqb n 0)
empty-is b n = grind (arith, nat_tests)

pub top-begin : (g : GraphFields) (b e n place : ℕ) → place ≤ first_of g e → IsTop (word_before g b e n place) (cond (eqb n 0) 1 0)
top-begin g b e n place low = record {
  upper = up;
  least = λ bound h. let first = h [] in let is = empty-is b n in omega arith;
}
  where
    up : (w : List ℕ) → word_before g b e n place w ≤ cond (eqb n 0) 1 0
    up [] = let is = empty-is b n in omega arith
    up (k ∷ rest) = elim (cases_lt k place) [
      | inl lt ↦
          let one = before-yes g b e n place k rest lt in
          let none : word_of g b e n (k ∷ rest) ≡ 0 = word-outside g b e n k rest (λ h l. let x : ⊥ = omega arith in x) in
          omega arith
      | inr ge ↦ let none = before-no g b e n place k rest ge in omega arith
    ]

-- a bound of the words below a place bounds those below the next one, if it bounds those that begin there
before-next : (g : GraphFields) (b e n place v bound : ℕ) → v ≤ bound → ((w : List ℕ) → word_before g b e n place w ≤ v)
    → ((rest : List ℕ) → word_before g b e n (place + 1) (place ∷ rest) ≤ bound)
    → (w : List ℕ) → word_before g b e n (place + 1) w ≤ bound
before-next g b e n place v bound more old own [] = let small = old [] in omega arith
before-next g b e n place v bound more old own (k ∷ rest) = elim (cases_lt k place) [
  | inl lt ↦
      let one = before-yes g b e n place k rest lt in
      let two = before-yes g b e n (place + 1) k rest (omega arith) in
      let small = old (k ∷ rest) in
      omega arith
  | inr ge ↦ elim (cases_lt k (place + 1)) [
    | inl lt ↦
        let same : place ≡ k = omega arith in
        subst (λ (m : ℕ). word_before g b e n (place + 1) (m ∷ rest) ≤ bound) same (own rest)
    | inr gt ↦ let none = before-no g b e n (place + 1) k rest gt in omega arith
  ]
]

pub top-step : (g : GraphFields) (b e n place v src : ℕ) → first_of g e ≤ place → place < first_of g (e + 1) → (edge_at g place).cost ≤ b
    → IsTop (word_before g b e n place) v
    → IsTop (word_of g (b - (edge_at g place).cost) (edge_at g place).to (n - (edge_at g place).shift)) src
    → IsTop (word_before g b e n (place + 1)) (max v (raised (edge_at g place).gain src))
top-step g b e n place v src low high paid top source = record {
  upper = up;
  least = λ bound h.
      let old : v ≤ bound = top.least bound (λ w. let more = before-more g b e n place w in let fits = h w in omega arith) in
      let new : raised gain src ≤ bound = bound-raised gain bound src (source.least (lowered gain bound) (λ rest.
      raised-bound gain bound (rests rest) (word_cut g (b - (edge_at g place).cost) (edge_at g place).to (n - (edge_at g place).shift) rest)
      (let is = first rest in let fits = h (place ∷ rest) in omega arith))) in
      omega arith;
}
  where
    gain : ℕ
    gain = (edge_at g place).gain

    rests : List ℕ → ℕ
    rests rest = word_of g (b - (edge_at g place).cost) (edge_at g place).to (n - (edge_at g place).shift) rest

    first : (rest : List ℕ) → word_before g b e n (place + 1) (place ∷ rest) ≡ raised gain (rests rest)
    first rest = before-yes g b e n (place + 1) place rest (omega arith) ∙ word-cons g b e n place rest low high paid

    up : (w : List ℕ) → word_before g b e n (place + 1) w ≤ max v (raised gain src)
    up = before-next g b e n place v (max v (raised gain src)) (omega arith) top.upper
        (λ rest. let is = first rest in let small = raised-le gain (rests rest) src (source.upper rest) in omega arith)

pub top-costly : (g : GraphFields) (b e n place v : ℕ) → b < (edge_at g place).cost
    → IsTop (word_before g b e n place) v → IsTop (word_before g b e n (place + 1)) v
top-costly g b e n place v more top = record {
  upper = before-next g b e n place v v (omega arith) top.upper (λ rest.
      let is = before-yes g b e n (place + 1) place rest (omega arith) in let none = word-costly g b e n place rest more in omega arith);
  least = λ bound h. top.least bound (λ w. let wider = before-more g b e n place w in let fits = h w in omega arith);
}

pub top-end : (g : GraphFields) (b e n place v : ℕ) → first_of g (e + 1) ≤ place → IsTop (word_before g b e n place) v → IsTop (word_of g b e n) v
top-end g b e n place v past top = record {
  upper = λ w. let is = same w in let old = top.upper w in omega arith;
  least = λ bound h. top.least bound (λ w. let is = same w in let fits = h w in omega arith);
}
  where
    same : (w : List ℕ) → word_before g b e n place w ≡ word_of g b e n w
    same [] = refl
    same (k ∷ rest) = elim (cases_lt k place) [
      | inl lt ↦ before-yes g b e n place k rest lt
      | inr ge ↦ before-no g b e n place k rest ge ∙ sym (word-outside g b e n k rest (λ h l. let x : ⊥ = omega arith in x))
    ]
