-- Pieces: their places, and more of them.
use Rattle.std.proofs.Common.{ℕ, List, Vec, Option, None, MatchOption, ◌≡◌, ◌≤◌, ◌<◌, ◌+◌, ◌-◌, ◌*◌, ◌/◌, ◌%◌, ◌^◌, ◌++◌, ◌∷◌, [], ◌∙◌, length, get_or, set, take, drop, min, refl, ap, sym, subst, arith, inl, inr, length-append, length-set}
use Rattle.std.specs.Prelude.{⊤}
use Rattle.std.proofs.lemmas.Bool.{cases_lt}
use Rattle.std.proofs.lemmas.List.{get_or_append_left, get_or-append_right, get_or_push, get_or-set_same, get_or-set_other}
use Rattle.std.proofs.lemmas.Nat.{div-mul-add, mod-mul-add, div_below}
use Rattle.std.proofs.Math.Nat.{mul-le-mul_right, mul-le-mul_left, div-add-mod', mod-lt, mul-mod_left, mul-zero}
use Rattle.walk_table.specs.Graph.{GraphFields}
use Rattle.walk_table.specs.Pieces.{piece_nodes, pieces_of, IsPart, IsPiece, ArePieces, AreSlots, IsNear, IsReady}
use Rattle.walk_table.specs.Tops.{IsColumn}
use Rattle.walk_table.proofs.Columns.{column_read}

-- ---- places

-- a node stands in one of the pieces
pub part_of_node : (nodes node : ℕ) → node < nodes → node / piece_nodes < pieces_of nodes
part_of_node nodes node lt = omega arith

-- and a piece begins with a node
pub first_below : (nodes part : ℕ) → part < pieces_of nodes → part * piece_nodes < nodes
first_below nodes part lt = omega arith

pub some_pieces : (nodes : ℕ) → 0 < nodes → 0 < pieces_of nodes
some_pieces nodes some = omega arith

pub few_pieces : (nodes : ℕ) → pieces_of nodes ≤ nodes
few_pieces nodes = omega arith

pub places_fit : (budget nodes : ℕ) → budget * nodes < 2 ^ 64 → budget * pieces_of nodes < 2 ^ 64
places_fit budget nodes fits = let few : budget * pieces_of nodes ≤ budget * nodes = mul-le-mul_left budget (few_pieces nodes) in omega arith

-- the place of a node's piece is one of those that are filled
pub place_within : (nodes budgets budget node : ℕ) → node < nodes → budget < budgets → budget * pieces_of nodes + node / piece_nodes < budgets * pieces_of nodes
place_within nodes budgets budget node lt within =
    let part : node / piece_nodes < pieces_of nodes = part_of_node nodes node lt in
    let next : budget + 1 ≤ budgets = omega arith in
    let most : (budget + 1) * pieces_of nodes ≤ budgets * pieces_of nodes = mul-le-mul_right (pieces_of nodes) next in
    omega arith

-- the columns of a piece are of nodes
pub first_fits : (nodes place : ℕ) → 0 < nodes → place % pieces_of nodes * piece_nodes < nodes
first_fits nodes place some = first_below nodes (place % pieces_of nodes) (mod-lt place (some_pieces nodes some))

pub whole : (len columns needs : ℕ) → len ≡ columns * needs → len % needs ≡ 0
whole len columns needs is = ap (λ (n : ℕ). n % needs) is ∙ mul-mod_left columns needs

pub columns_in : (len columns needs : ℕ) → 0 < needs → len ≡ columns * needs → len / needs ≡ columns
columns_in len columns needs some is = let sum : len ≡ columns * needs + 0 = omega arith in ap (λ (n : ℕ). n / needs) sum ∙ div-mul-add columns needs 0 some

-- the pieces of a block can be made
pub ready_at : (g : GraphFields) (start end to place : ℕ) → to ≡ end * pieces_of g.nodes → IsNear g start end → place < to → IsReady g start place
ready_at g start end to place to_is near lt =
    let within : place < end * pieces_of g.nodes = omega arith in
    let some : 0 < g.nodes = elim (cases_lt 0 g.nodes) [
      | inl lt ↦ lt
      | inr ge ↦ absurd (
          let none : g.nodes ≡ 0 = omega arith in
          let empty : end * pieces_of g.nodes ≡ 0 = ap (λ (n : ℕ). end * pieces_of n) none ∙ mul-zero end in
          let h : ⊥ = omega arith in h)
    ] in
    let budget : place / pieces_of g.nodes < end = div_below place (pieces_of g.nodes) end (some_pieces g.nodes some) within in
    (some, λ k inside. let far = near k inside in omega arith)

pub places_ordered : (start end nodes : ℕ) → start ≤ end → start * pieces_of nodes ≤ end * pieces_of nodes
places_ordered start end nodes le = mul-le-mul_right (pieces_of nodes) le

-- the budgets of a table have so few nodes that they can be counted
pub nodes_fit : (end budgets nodes needs : ℕ) → end ≤ budgets → 0 < needs → budgets * (nodes * needs) < 2 ^ 64 → end * nodes < 2 ^ 64
nodes_fit end budgets nodes needs le some fits =
    let one : 1 ≤ needs = omega arith in
    let more : nodes * 1 ≤ nodes * needs = mul-le-mul_left nodes one in
    let row : nodes ≤ nodes * needs = omega arith in
    let wide : end * nodes ≤ end * (nodes * needs) = mul-le-mul_left end row in
    let high : end * (nodes * needs) ≤ budgets * (nodes * needs) = mul-le-mul_right (nodes * needs) le in
    omega arith

-- ---- reading

pub piece_read : {A : Type 0} (g : GraphFields) (needs budget node place : ℕ) (pieces : List (Vec ℕ A)) (piece : Vec ℕ A) → node < g.nodes
    → place ≡ budget * pieces_of g.nodes + node / piece_nodes → place < length pieces → piece ≡ get_or pieces place piece → ArePieces g needs 0 pieces
    → IsPart g needs budget (node / piece_nodes) piece.items
piece_read g needs budget node place pieces piece lt place_is within is right =
    let count = pieces_of g.nodes in
    let part : node / piece_nodes < count = part_of_node g.nodes node lt in
    let budget_is : place / count ≡ budget = ap (λ (m : ℕ). m / count) place_is ∙ div-mul-add budget count (node / piece_nodes) part in
    let part_is : place % count ≡ node / piece_nodes = ap (λ (m : ℕ). m % count) place_is ∙ mod-mul-add budget count (node / piece_nodes) part in
    subst (λ (m : ℕ). IsPart g needs m (node / piece_nodes) piece.items) budget_is
    (subst (λ (m : ℕ). IsPart g needs (place / count) m piece.items) part_is
    (subst (λ (v : Vec ℕ _). IsPart g needs (place / count) (place % count) v.items) (sym is)
    (subst (λ (m : ℕ). IsPiece g needs m (get_or pieces place piece).items) (let e : 0 + place ≡ place = omega arith in e) (right.at place piece within))))

-- the column of a node in its piece
pub column_within_part : (g : GraphFields) (needs budget node at : ℕ) (words : List ℕ) → node < g.nodes → at ≡ node % piece_nodes * needs
    → IsPart g needs budget (node / piece_nodes) words → at + needs ≤ length words
column_within_part g needs budget node at words lt at_is part =
    let inside : node % piece_nodes + 1 ≤ min piece_nodes (g.nodes - node / piece_nodes * piece_nodes) = omega arith in
    let most : (node % piece_nodes + 1) * needs ≤ min piece_nodes (g.nodes - node / piece_nodes * piece_nodes) * needs = mul-le-mul_right needs inside in
    let long = part.long in
    omega arith

pub column_of_part : (g : GraphFields) (needs budget node at n : ℕ) (words : List ℕ) → node < g.nodes → at ≡ node % piece_nodes * needs → n ≡ needs
    → IsPart g needs budget (node / piece_nodes) words → IsColumn g budget node (take n (drop at words))
column_of_part g needs budget node at n words lt at_is n_is part =
    let node_is : node / piece_nodes * piece_nodes + node % piece_nodes ≡ node = div-add-mod' node piece_nodes in
    subst (λ (m : ℕ). IsColumn g budget m (take n (drop at words))) node_is
    (column_read g budget (node / piece_nodes * piece_nodes) needs (node % piece_nodes) at n words at_is n_is (column_within_part g needs budget node at words lt at_is part) part.right)

-- ---- more pieces

pub pieces_none : {A : Type 0} (g : GraphFields) (needs first : ℕ) (pieces : List (Vec ℕ A)) → length pieces ≡ 0 → ArePieces g needs first pieces
pieces_none g needs first pieces none = record { at = λ k d lt. absurd (let h : ⊥ = omega arith in h) }

pub pieces_joined : {A : Type 0} (g : GraphFields) (needs first next : ℕ) (xs ys : List (Vec ℕ A)) → next ≡ first + length xs
    → ArePieces g needs first xs → ArePieces g needs next ys → ArePieces g needs first (xs ++ ys)
pieces_joined g needs first next xs ys next_is front back = record {
  at = λ k d lt. elim (cases_lt k (length xs)) [
    | inl inside ↦ subst (λ (v : Vec ℕ _). IsPiece g needs (first + k) v.items) (sym (get_or_append_left xs ys d k inside)) (front.at k d inside)
    | inr past ↦
        let sum : length (xs ++ ys) ≡ length xs + length ys = length-append xs ys in
        let here : next + (k - length xs) ≡ first + k = omega arith in
        subst (λ (v : Vec ℕ _). IsPiece g needs (first + k) v.items) (sym (get_or-append_right xs ys (length xs) k d refl past))
        (subst (λ (m : ℕ). IsPiece g needs m (get_or ys (k - length xs) d).items) here (back.at (k - length xs) d (omega arith)))
  ];
}

pub pieces_pushed : {A : Type 0} (g : GraphFields) (needs first place : ℕ) (xs : List (Vec ℕ A)) (piece : Vec ℕ A) → place ≡ first + length xs
    → ArePieces g needs first xs → IsPiece g needs place piece.items → ArePieces g needs first (xs ++ piece ∷ [])
pieces_pushed g needs first place xs piece place_is front last = record {
  at = λ k d lt. elim (cases_lt k (length xs)) [
    | inl inside ↦ subst (λ (v : Vec ℕ _). IsPiece g needs (first + k) v.items) (sym (get_or_append_left xs (piece ∷ []) d k inside)) (front.at k d inside)
    | inr past ↦
        let sum : length (xs ++ piece ∷ []) ≡ length xs + 1 = length-append xs (piece ∷ []) in
        let here : length xs ≡ k = omega arith in
        let place_here : place ≡ first + k = omega arith in
        subst (λ (v : Vec ℕ _). IsPiece g needs (first + k) v.items) (sym (get_or_push xs piece d k here)) (subst (λ (m : ℕ). IsPiece g needs m piece.items) place_here last)
  ];
}

-- ---- places with a piece or none

pub slots_set : {A : Type 0} (g : GraphFields) (needs first place j : ℕ) (slots : List (Option (Vec ℕ A))) (slot : Option (Vec ℕ A)) → place ≡ first + j
    → AreSlots g needs first slots → MatchOption slot ⊤ (λ piece. IsPiece g needs place piece.items) → AreSlots g needs first (set slots j slot)
slots_set g needs first place j slots slot place_is before new = record {
  at = λ k d lt.
      let same : length (set slots j slot) ≡ length slots = length-set slots j slot in
      let inside : k < length slots = omega arith in
      elim (cases_lt k j) [
        | inl lower ↦ subst (λ (s : Option (Vec ℕ _)). MatchOption s ⊤ (λ piece. IsPiece g needs (first + k) piece.items))
            (sym (get_or-set_other slots j k slot d (λ e. let h : ⊥ = omega arith in h))) (before.at k d inside)
        | inr ge ↦ elim (cases_lt j k) [
          | inl higher ↦ subst (λ (s : Option (Vec ℕ _)). MatchOption s ⊤ (λ piece. IsPiece g needs (first + k) piece.items))
              (sym (get_or-set_other slots j k slot d (λ e. let h : ⊥ = omega arith in h))) (before.at k d inside)
          | inr le ↦
              let here : j ≡ k = omega arith in
              subst (λ (m : ℕ). MatchOption (get_or (set slots j slot) m d) ⊤ (λ piece. IsPiece g needs (first + m) piece.items)) here
              (subst (λ (s : Option (Vec ℕ _)). MatchOption s ⊤ (λ piece. IsPiece g needs (first + j) piece.items)) (sym (get_or-set_same slots j slot d (omega arith)))
              (subst (λ (m : ℕ). MatchOption slot ⊤ (λ piece. IsPiece g needs m piece.items)) place_is new))
        ]
      ];
}

pub slots_pushed : {A : Type 0} (g : GraphFields) (needs first : ℕ) (slots : List (Option (Vec ℕ A))) → AreSlots g needs first slots → AreSlots g needs first (slots ++ None ∷ [])
slots_pushed g needs first slots before = record {
  at = λ k d lt. elim (cases_lt k (length slots)) [
    | inl inside ↦ subst (λ (s : Option (Vec ℕ _)). MatchOption s ⊤ (λ piece. IsPiece g needs (first + k) piece.items)) (sym (get_or_append_left slots (None ∷ []) d k inside)) (before.at k d inside)
    | inr past ↦
        let sum : length (slots ++ None ∷ []) ≡ length slots + 1 = length-append slots (None ∷ []) in
        let here : length slots ≡ k = omega arith in
        subst (λ (s : Option (Vec ℕ _)). MatchOption s ⊤ (λ piece. IsPiece g needs (first + k) piece.items)) (sym (get_or_push slots None d k here)) tt
  ];
}
