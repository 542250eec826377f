-- Columns: raised by edges, and side by side in a piece.
use Rattle.std.proofs.Common.{ℕ, List, ◌≡◌, ◌≤◌, ◌<◌, ◌+◌, ◌-◌, ◌*◌, ◌/◌, ◌%◌, ◌++◌, ◌∙◌, length, get_or, take, drop, max, min, ap, sym, subst, arith, cond, eqb, inl, inr, length-append, take_all}
use Rattle.std.proofs.lemmas.Bool.{cases_lt}
use Rattle.std.proofs.lemmas.List.{get_or_append_left, get_or-append_right, get_or-drop, get_or-take, length-take-le, length-take}
use Rattle.std.proofs.lemmas.Nat.{div-mul-add, mod-mul-add}
use Rattle.std.proofs.lemmas.Slice.{take-put_mid}
use Rattle.std.proofs.Math.Nat.{mul-le-mul_right, div-add-mod', div-mul-le_self}
use borrow.Rule.Slice.PartMut.{put_mid}
use Rattle.walk_table.specs.declared.graph.Edge.{Edge}
use Rattle.walk_table.specs.Graph.{GraphFields, edge_at, first_of}
use Rattle.walk_table.specs.Pieces.{AreColumns}
use Rattle.walk_table.specs.Tops.{word_of, word_before, IsTop, IsColumn, IsColumnBefore}
use Rattle.walk_table.specs.Words.{raised}
use Rattle.walk_table.proofs.Tops.{top-begin, top-step, top-costly, top-end}

-- ---- one column

-- a column that was raised by an edge
abbrev Raised : GraphFields → ℕ → ℕ → ℕ → List ℕ → List ℕ → List ℕ → Edge → Type 0
Raised g b e k old src new edge =
    edge.cost ≤ b → IsColumn g (b - edge.cost) edge.to src
    → ((need : ℕ) → need < length old → get_or new need 0 ≡ max (get_or old need 0) (raised edge.gain (get_or src (need - edge.shift) 0)))
    → IsColumnBefore g b e (k + 1) new

raised_at : (g : GraphFields) (b e k : ℕ) (old src new : List ℕ) → first_of g e ≤ k → k < first_of g (e + 1) → length new ≡ length old → length src ≡ length old
    → IsColumnBefore g b e k old → Raised g b e k old src new (edge_at g k)
raised_at g b e k old src new low high same long before paid source values = record {
  at = λ need lt.
      let inside : need < length old = omega arith in
      subst (λ (v : ℕ). IsTop (word_before g b e need (k + 1)) v) (sym (values need inside))
      (top-step g b e need k (get_or old need 0) (get_or src (need - (edge_at g k).shift) 0) low high paid (before.at need inside) (source.at (need - (edge_at g k).shift) (omega arith)));
}

pub column_raised : (g : GraphFields) (b e k : ℕ) (old src new : List ℕ) (edge : Edge) → edge ≡ edge_at g k → first_of g e ≤ k → k < first_of g (e + 1)
    → length new ≡ length old → length src ≡ length old → IsColumnBefore g b e k old → Raised g b e k old src new edge
column_raised g b e k old src new edge edge_is low high same long before =
    subst (λ (x : Edge). Raised g b e k old src new x) (sym edge_is) (raised_at g b e k old src new low high same long before)

pub column_costly : (g : GraphFields) (b e k : ℕ) (old : List ℕ) → b < (edge_at g k).cost → IsColumnBefore g b e k old → IsColumnBefore g b e (k + 1) old
column_costly g b e k old more before = record { at = λ need lt. top-costly g b e need k (get_or old need 0) more (before.at need lt) }

pub column_begun : (g : GraphFields) (b e k : ℕ) (old new : List ℕ) → length new ≡ length old → k ≤ first_of g e
    → ((need : ℕ) → need < length old → get_or new need 0 ≡ cond (eqb need 0) 1 0) → IsColumnBefore g b e k new
column_begun g b e k old new same low values = record {
  at = λ need lt. subst (λ (v : ℕ). IsTop (word_before g b e need k) v) (sym (values need (omega arith))) (top-begin g b e need k low);
}

pub column_ended : (g : GraphFields) (b e k : ℕ) (column : List ℕ) → first_of g (e + 1) ≤ k → IsColumnBefore g b e k column → IsColumn g b e column
column_ended g b e k column past before = record { at = λ need lt. top-end g b e need k (get_or column need 0) past (before.at need lt) }

-- ---- columns side by side

pub columns_none : (g : GraphFields) (b first needs n : ℕ) (run : List ℕ) → n ≡ 0 → AreColumns g b first needs (take n run)
columns_none g b first needs n run none = subst (λ (m : ℕ). AreColumns g b first needs (take m run)) (sym none) (record { at = λ i lt. absurd (let h : ⊥ = omega arith in h) })

-- one more column
joined : (g : GraphFields) (b first needs j : ℕ) (xs ys : List ℕ) → length xs ≡ j * needs → length ys ≡ needs
    → AreColumns g b first needs xs → IsColumn g b (first + j) ys → AreColumns g b first needs (xs ++ ys)
joined g b first needs j xs ys front long before column = record {
  at = λ i lt. elim (cases_lt i (length xs)) [
    | inl inside ↦ subst (λ (v : ℕ). IsTop (word_of g b (first + i / needs) (i % needs)) v) (sym (get_or_append_left xs ys 0 i inside)) (before.at i inside)
    | inr past ↦
        let sum : length (xs ++ ys) ≡ length xs + length ys = length-append xs ys in
        let small : i - j * needs < needs = omega arith in
        let here : j * needs + (i - j * needs) ≡ i = omega arith in
        let column_is : i / needs ≡ j = ap (λ (m : ℕ). m / needs) (sym here) ∙ div-mul-add j needs (i - j * needs) small in
        let need_is : i % needs ≡ i - j * needs = ap (λ (m : ℕ). m % needs) (sym here) ∙ mod-mul-add j needs (i - j * needs) small in
        subst (λ (v : ℕ). IsTop (word_of g b (first + i / needs) (i % needs)) v) (sym (get_or-append_right xs ys (j * needs) i 0 front (omega arith)))
        (subst (λ (m : ℕ). IsTop (word_of g b (first + m) (i % needs)) (get_or ys (i - j * needs) 0)) (sym column_is)
        (subst (λ (m : ℕ). IsTop (word_of g b (first + j) m) (get_or ys (i - j * needs) 0)) (sym need_is) (column.at (i - j * needs) (omega arith))))
  ];
}

pub columns_more : (g : GraphFields) (b first needs j at k : ℕ) (run out : List ℕ) → at ≡ j * needs → j * needs + needs ≤ length run → length out ≡ needs
    → IsColumn g b (first + j) out → AreColumns g b first needs (take (j * needs) run) → AreColumns g b first needs (take ((j + 1) * needs) (put_mid at k run out))
columns_more g b first needs j at k run out at_is within long column before =
    let front : length (take (j * needs) run) ≡ j * needs = length-take-le (j * needs) run (omega arith) in
    let more : (j + 1) * needs ≡ j * needs + length out = omega arith in
    subst (λ (m : ℕ). AreColumns g b first needs (take ((j + 1) * needs) (put_mid m k run out))) (sym at_is)
    (subst (λ (l : List ℕ). AreColumns g b first needs l) (sym (take-put_mid (j * needs) k run out ((j + 1) * needs) more (omega arith)))
    (joined g b first needs j (take (j * needs) run) out front long before column))

whole_columns : (len needs : ℕ) → len % needs ≡ 0 → len / needs * needs ≡ len
whole_columns len needs even = let e : len / needs * needs + len % needs ≡ len = div-add-mod' len needs in omega arith

pub columns_whole : (g : GraphFields) (b first needs j : ℕ) (run : List ℕ) → length run % needs ≡ 0 → length run / needs ≤ j
    → AreColumns g b first needs (take (j * needs) run) → AreColumns g b first needs run
columns_whole g b first needs j run even past right =
    let whole : length run / needs * needs ≡ length run = whole_columns (length run) needs even in
    let most : length run / needs * needs ≤ j * needs = mul-le-mul_right needs past in
    subst (λ (l : List ℕ). AreColumns g b first needs l) (take_all (j * needs) run (omega arith)) right

-- column j of a run lies within it
pub column_within : (j len needs : ℕ) → j < len / needs → j * needs + needs ≤ len
column_within j len needs lt =
    let next : j + 1 ≤ len / needs = omega arith in
    let more : (j + 1) * needs ≤ len / needs * needs = mul-le-mul_right needs next in
    let low : len / needs * needs ≤ len = div-mul-le_self len needs in
    omega arith

-- a column that is read
pub column_read : (g : GraphFields) (b first needs j at n : ℕ) (words : List ℕ) → at ≡ j * needs → n ≡ needs → at + needs ≤ length words
    → AreColumns g b first needs words → IsColumn g b (first + j) (take n (drop at words))
column_read g b first needs j at n words at_is n_is within right = record {
  at = λ need lt.
      let small : need < needs = below need lt in
      let i = at + need in
      let here : j * needs + need ≡ i = omega arith in
      let column_is : i / needs ≡ j = ap (λ (m : ℕ). m / needs) (sym here) ∙ div-mul-add j needs need small in
      let need_is : i % needs ≡ need = ap (λ (m : ℕ). m % needs) (sym here) ∙ mod-mul-add j needs need small in
      let value : get_or (take n (drop at words)) need 0 ≡ get_or words i 0 = get_or-take n (drop at words) need 0 (omega arith) ∙ get_or-drop at words need 0 in
      subst (λ (v : ℕ). IsTop (word_of g b (first + j) need) v) (sym value)
      (subst (λ (m : ℕ). IsTop (word_of g b (first + j) m) (get_or words i 0)) need_is
      (subst (λ (m : ℕ). IsTop (word_of g b (first + m) (i % needs)) (get_or words i 0)) column_is (right.at i (omega arith))));
}
  where
    below : (need : ℕ) → need < length (take n (drop at words)) → need < needs
    below need lt = let few : length (take n (drop at words)) ≡ min n (length (drop at words)) = length-take n (drop at words) in omega arith
