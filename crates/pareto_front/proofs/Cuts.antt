-- Pieces that follow each other are cut from what they have.
use Rattle.std.proofs.Common.{◌≡◌, ◌∙◌, ℕ, zero, suc, ◌+◌, ◌<◌, ◌≤◌, ◌⊎◌, inl, inr, Bool, List, [], ◌∷◌, ◌++◌, append_assoc, append-nil, length, get_or, take, Vec, arith, refl, ap, sym, subst}
use Rattle.std.specs.List.{AllZip, flat_map}
use Rattle.std.specs.Borrow.{Bor}
use Rattle.std.proofs.lemmas.List.{length-append, take_more, get_or_append_left, get_or-append-add}
use Rattle.std.proofs.lemmas.List.Concat.{flat_map-append}
use Rattle.pareto_front.specs.declared.node.Node.{Node}
use Rattle.pareto_front.specs.declared.piece.Piece.{Piece}
use Rattle.pareto_front.specs.Parts.{marked_from}
use Rattle.pareto_front.specs.Pieces.{Follow, Stands, nodes_in, nodes_of}
use Rattle.plain_lemmas.proofs.Lists.{Among}
use Rattle.pareto_front.proofs.Places.{marked-append}

below_or_up : (j m : ℕ) → (j < m) ⊎ (m ≤ j)
below_or_up zero zero = inr (omega arith)
below_or_up zero (suc m) = inl (omega arith)
below_or_up (suc j) zero = inr (omega arith)
below_or_up (suc j) (suc m) = elim (below_or_up j m) [ inl h ↦ inl (omega (arith, h)) | inr h ↦ inr (omega (arith, h)) ]

-- nodes that stand between others
stands-between : (before rest : List Node) (p : Piece) → p.start ≡ length before → Stands (before ++ (p.nodes.now ++ rest)) p
stands-between before rest p start = record {
  inside = omega (arith, start, length-append before (p.nodes.now ++ rest), length-append p.nodes.now rest);
  at = λ k d low.
      ap (λ (n : ℕ). get_or (before ++ (p.nodes.now ++ rest)) (n + k) d) start
      ∙ get_or-append-add before (p.nodes.now ++ rest) k d ∙ get_or_append_left p.nodes.now rest d k low;
}

stands-after : (before : List Node) (pieces : List Piece) (p : Piece) → Follow (length before) pieces → Among p pieces → Stands (before ++ nodes_in pieces) p
stands-after before [] p follow h = absurd h
stands-after before (q ∷ qs) p follow (inl here) = subst (Stands (before ++ (q.nodes.now ++ nodes_in qs))) here (stands-between before (nodes_in qs) q follow.0)
stands-after before (q ∷ qs) p follow (inr later) =
    subst (λ (l : List Node). Stands l p) (append_assoc before q.nodes.now (nodes_in qs))
    (stands-after (before ++ q.nodes.now) qs p (subst (λ (n : ℕ). Follow n qs) (sym (length-append before q.nodes.now)) follow.1) later)

-- each of the pieces stands in what they have
pub piece-stands : (pieces : List Piece) (p : Piece) → Follow 0 pieces → Among p pieces → Stands (nodes_in pieces) p
piece-stands pieces p follow h = stands-after [] pieces p follow h

-- each place is in one of them
pub piece-at : (place : ℕ) (pieces : List Piece) (j : ℕ) → Follow place pieces → place ≤ j → j < place + length (nodes_in pieces) →
    (p : Piece) × Among p pieces × (p.start ≤ j) × (j < p.start + length p.nodes.now)
piece-at place [] j follow low high = absurd (omega (arith, low, high))
piece-at place (q ∷ qs) j follow low high = elim (below_or_up j (place + length q.nodes.now)) [
  | inl here ↦ (q, inl refl, omega (arith, follow.0, low), omega (arith, follow.0, here))
  | inr later ↦
      let w = piece-at (place + length q.nodes.now) qs j follow.1 later (omega (arith, high, length-append q.nodes.now (nodes_in qs))) in
      (w.0, inr w.1, w.2, w.3)
]

-- one more piece
follow-more : (place : ℕ) (pieces : List Piece) (p : Piece) → Follow place pieces → p.start ≡ place + length (nodes_in pieces) → Follow place (pieces ++ p ∷ [])
follow-more place [] p follow start = (omega (arith, start), tt)
follow-more place (q ∷ qs) p follow start =
    (follow.0, follow-more (place + length q.nodes.now) qs p follow.1 (omega (arith, start, length-append q.nodes.now (nodes_in qs))))

nodes-more : (pieces : List Piece) (p : Piece) → nodes_in (pieces ++ p ∷ []) ≡ nodes_in pieces ++ p.nodes.now
nodes-more pieces p =
    flat_map-append (λ (q : Piece). q.nodes.now) pieces (p ∷ []) ∙ ap (λ (l : List Node). nodes_in pieces ++ l) (append-nil p.nodes.now)

-- the marked nodes of the pieces are those of what they have
pub marked-joined : {B : Type 0} (marks : List Bool) (place : ℕ) (pieces : List Piece) (found : List (Vec Node B)) → Follow place pieces →
    AllZip (λ (p : Piece) (v : Vec Node B). v.items ≡ marked_from p.start marks p.nodes.now) pieces found → flat_map (λ (v : Vec Node B). v.items) found ≡ marked_from place marks (nodes_in pieces)
marked-joined marks place [] [] follow all = refl
marked-joined marks place [] (v ∷ found) follow all = absurd all
marked-joined marks place (p ∷ pieces) [] follow all = absurd all
marked-joined {B} marks place (p ∷ pieces) (v ∷ found) follow all =
    ap (λ (l : List Node). l ++ flat_map (λ (w : Vec Node B). w.items) found) (all.0 ∙ ap (λ (n : ℕ). marked_from n marks p.nodes.now) follow.0)
    ∙ ap (λ (l : List Node). marked_from place marks p.nodes.now ++ l) (marked-joined marks (place + length p.nodes.now) pieces found follow.1 all.1)
    ∙ sym (marked-append place marks p.nodes.now (nodes_in pieces))

-- one more list
pub lists-more : (lists : List (Bor (List Node))) (i : ℕ) (list : Bor (List Node)) → i < length lists → list ≡ get_or lists i list → nodes_of (take (i + 1) lists) ≡ nodes_of (take i lists) ++ list.now
lists-more lists i list inside is =
    ap nodes_of (take_more lists i list inside ∙ ap (λ (l : Bor (List Node)). take i lists ++ l ∷ []) (sym is))
    ∙ flat_map-append (λ (l : Bor (List Node)). l.now) (take i lists) (list ∷ []) ∙ ap (λ (l : List Node). nodes_of (take i lists) ++ l) (append-nil list.now)

-- one more piece of a list, of which there is a rest
pub cut-more : (pieces later : List Piece) (p : Piece) (rest back whole : List Node) → later ≡ pieces ++ p ∷ [] → p.start ≡ length (nodes_in pieces) → rest ≡ p.nodes.now ++ back →
    Follow 0 pieces → nodes_in pieces ++ rest ≡ whole → (nodes_in later ++ back ≡ whole) × Follow 0 later × (length (nodes_in later) ≡ length (nodes_in pieces) + length p.nodes.now)
cut-more pieces later p rest back whole grown start is follow all =
    let nodes : nodes_in later ≡ nodes_in pieces ++ p.nodes.now = ap nodes_in grown ∙ nodes-more pieces p in (
      ap (λ (l : List Node). l ++ back) nodes ∙ append_assoc (nodes_in pieces) p.nodes.now back ∙ ap (λ (l : List Node). nodes_in pieces ++ l) (sym is) ∙ all,
      subst (Follow 0) (sym grown) (follow-more 0 pieces p follow (omega (arith, start))),
      ap length nodes ∙ length-append (nodes_in pieces) p.nodes.now,
    )
