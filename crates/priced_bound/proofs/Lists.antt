-- Lists of the edges that a combo adds, sight by sight.
use Rattle.std.proofs.Common.{ℕ, zero, suc, add-one, drop-cons, List, [], ◌∷◌, ◌++◌, Vec, Option, ◌≡◌, ◌<◌, ◌≤◌, ◌+◌, length, get_or, drop, refl, ◌∙◌, ap, sym, subst, arith, inl, inr, length-append}
use Rattle.std.proofs.lemmas.Bool.{cases_lt}
use Rattle.std.proofs.lemmas.List.{get_or_append_left, get_or_push}
use Rattle.craft_state.specs.declared.Combo.{Combo}
use Rattle.relaxed_moves.specs.Optimum.{option_max}
use Rattle.relaxed_moves.proofs.Greatest.{option_max-assoc, option_max-none}
use Rattle.priced_moves.specs.declared.kinds.Edge.{Edge}
use Rattle.priced_moves.specs.Edges.{combo_edges_of, greatest_edge}
use Rattle.priced_moves.specs.FirstMoves.{at_need, without_combo}
use Rattle.priced_moves.specs.Moves.{SeenFields}
use Rattle.priced_moves.proofs.Recursion.{combo-column}
use Rattle.priced_graph.specs.Sights.{IsNumber, IsSeenIn, sights_of, node_count, number_of, seen_at}
use Rattle.priced_graph.specs.Graphs.{LeadOn}
use Rattle.priced_graph.proofs.Closed.{combo-edges-lead_on}
use Rattle.priced_graph.proofs.Digits.{seen-number}
use Rattle.priced_bound.specs.Bounds.{BoundFields}
use Rattle.priced_bound.specs.Reckoned.{ReckoningFields, AreReckoned}
use Rattle.priced_bound.specs.Tables.{with_combo, combo_edges_at, AreComboLists}

pub none-listed : {A : Type 0} (r : ReckoningFields) (combo : Combo) (lists : List (Vec Edge A)) → lists ≡ [] → AreComboLists r combo 0 lists
none-listed r combo lists none = record {
  long = ap (λ l. length l) none;
  at = λ node d below. absurd (let x : ⊥ = omega arith in x);
}

pub more-listed : {A : Type 0} (r : ReckoningFields) (combo : Combo) (count : ℕ) (lists : List (Vec Edge A)) (d : Vec Edge A) → d.items ≡ combo_edges_at r combo count → AreComboLists r combo count lists → AreComboLists r combo (count + 1) (lists ++ d ∷ [])
more-listed r combo count lists d same listed = record {
  long = let sum = length-append lists (d ∷ []) in let is = listed.long in omega arith;
  at = λ node e below. elim (cases_lt node count) [
    | inl before ↦
        ap (λ v. v.items) (get_or_append_left lists (d ∷ []) e node (let is = listed.long in omega arith)) ∙ listed.at node e before
    | inr after ↦
        let here : length lists ≡ node = let is = listed.long in omega arith in
        let at : count ≡ node = omega arith in
        ap (λ v. v.items) (get_or_push lists d e node here) ∙ same ∙ ap (λ (n : ℕ). combo_edges_at r combo n) at
  ];
}

-- the edges at the sight of what is seen are those that its combo adds
sight_with : (x y : SeenFields) → y ≡ at_need (without_combo x) 0 → with_combo y x.combo ≡ at_need x 0
sight_with x y is = ap (λ (z : SeenFields). with_combo z x.combo) is

pub listed-edges : {A : Type 0} (r : ReckoningFields) (combo : Combo) (x : SeenFields) (lists : List (Vec Edge A)) (node : ℕ) (d : Vec Edge A) → x.combo ≡ combo → IsSeenIn (sights_of r.g) x →
    node ≡ number_of (sights_of r.g) x → node < node_count (sights_of r.g) → AreComboLists r combo (node_count (sights_of r.g)) lists → (get_or lists node d).items ≡ combo_edges_of r.prices r.g r.units x
listed-edges r combo x lists node d is in_g number below listed =
    listed.at node d below
    ∙ ap (λ (c : Combo). combo_edges_at r c node) (sym is)
    ∙ ap (λ (y : SeenFields). combo_edges_of r.prices r.g r.units y) (sight_with x (seen_at (sights_of r.g) node) (ap (λ (n : ℕ). seen_at (sights_of r.g) n) number ∙ seen-number (sights_of r.g) x in_g))
    ∙ combo-column r.prices r.g r.units x 0

pub combo-listed : {A : Type 0} (b : BoundFields) (r : ReckoningFields) (top : ℕ) (combo : Combo) (lists : List (Vec Edge A)) (node : ℕ) (d : Vec Edge A) (x : SeenFields) (edges : List Edge) →
    record { by = r; top = top } ≡ b → AreComboLists r combo (node_count (sights_of r.g)) lists → x.combo ≡ combo → IsNumber (sights_of b.by.g) x node → d ≡ get_or lists node d → edges ≡ d.items →
    edges ≡ combo_edges_of b.by.prices b.by.g b.by.units x
combo-listed b r top combo lists node d x edges view listed is number at same =
    let number_r : IsNumber (sights_of r.g) x node = subst (λ (h : BoundFields). IsNumber (sights_of h.by.g) x node) (sym view) number in
    same ∙ ap (λ v. v.items) at ∙ listed-edges r combo x lists node d is number_r.within number_r.value number_r.below listed ∙ ap (λ (h : BoundFields). combo_edges_of h.by.prices h.by.g h.by.units x) view

pub combo-leads : (b : BoundFields) (r : ReckoningFields) (top : ℕ) (x : SeenFields) (edges : List Edge) → record { by = r; top = top } ≡ b → AreReckoned r → IsSeenIn (sights_of b.by.g) x →
    edges ≡ combo_edges_of b.by.prices b.by.g b.by.units x → LeadOn (sights_of b.by.g) edges
combo-leads b r top x edges view are in_g lists =
    let fair = (subst (λ (h : BoundFields). AreReckoned h.by) view are).fair in
    subst (λ (es : List Edge). LeadOn (sights_of b.by.g) es) (sym lists) (combo-edges-lead_on b.by.prices b.by.g b.by.units x fair in_g)

-- the greatest over all edges is found one after another
drop-at : (es : List Edge) (i : ℕ) (e : Edge) → i < length es → get_or es i e ≡ e → drop i es ≡ e ∷ drop (i + 1) es
drop-at es i e below here =
    let all : drop i es ≡ get_or es i e ∷ drop (i + 1) es = rw (add-one, drop-cons es i e) refl in
    all ∙ ap (λ (y : Edge). y ∷ drop (i + 1) es) here

pub max-more : (f : Edge → Option ℕ) (es : List Edge) (i : ℕ) (e : Edge) (now next all : Option ℕ) → i < length es → get_or es i e ≡ e → next ≡ option_max now (f e) →
    option_max now (greatest_edge f (drop i es)) ≡ all → option_max next (greatest_edge f (drop (i + 1) es)) ≡ all
max-more f es i e now next all below here is found =
    ap (λ (o : Option ℕ). option_max o (greatest_edge f (drop (i + 1) es))) is
    ∙ option_max-assoc now (f e) (greatest_edge f (drop (i + 1) es))
    ∙ ap (λ (l : List Edge). option_max now (greatest_edge f l)) (sym (drop-at es i e below here))
    ∙ found

drop-past : (es : List Edge) (i : ℕ) → length es ≤ i → drop i es ≡ []
drop-past [] zero past = refl
drop-past [] (suc i) past = refl
drop-past (x ∷ es) zero past = absurd (let no_edge : ⊥ = omega arith in no_edge)
drop-past (x ∷ es) (suc i) past = drop-past es i (omega arith)

pub max-end : (f : Edge → Option ℕ) (es : List Edge) (i : ℕ) (now all : Option ℕ) → length es ≤ i → option_max now (greatest_edge f (drop i es)) ≡ all → now ≡ all
max-end f es i now all past found =
    sym (option_max-none now) ∙ ap (λ (l : List Edge). option_max now (greatest_edge f l)) (sym (drop-past es i past)) ∙ found
