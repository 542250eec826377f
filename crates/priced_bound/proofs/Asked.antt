-- What the parts of a table tell is the greatest gain of lists of moves, cut.
use Rattle.std.proofs.Common.{ℕ, Bool, true, false, List, Option, None, ◌≡◌, ◌≤◌, ◌<◌, ◌+◌, ◌-◌, nat_le, min, refl, ◌∙◌, ap, sym, subst, arith, if◌then◌else◌}
use Rattle.std.specs.Option.{option_map}
use Rattle.std.proofs.lemmas.Bool.Decides.{nat_tests}
use Rattle.plain_lemmas.proofs.Tests.{le_to}
use Rattle.craft_state.specs.declared.Combo.{Combo}
use Rattle.craft_state.specs.declared.Combo.TheVariants.{NoCombo}
use Rattle.relaxed_moves.specs.Optimum.{option_max}
use Rattle.priced_moves.specs.declared.kinds.Edge.{Edge}
use Rattle.priced_moves.specs.Edges.{combo_edges_of, greatest_edge}
use Rattle.priced_moves.specs.FirstMoves.{at_need, without_combo}
use Rattle.priced_moves.specs.Moves.{SeenFields}
use Rattle.priced_graph.specs.Graphs.{LeadsOn}
use Rattle.priced_graph.specs.Sights.{SightsFields, IsNumber, IsSeenIn, sights_of, node_count, seen_at}
use Rattle.priced_graph.specs.Ties.{best_cut}
use Rattle.priced_graph.proofs.Tied.{are-sights, answer-best, combo-best}
use Rattle.walk_table.specs.Tables.{TableFields}
use Rattle.walk_table.specs.Walks.{IsGreatestWorth}
use Rattle.priced_bound.specs.Bounds.{BoundFields}
use Rattle.priced_bound.specs.Reckoned.{ReckoningFields, AreReckoned}
use Rattle.priced_bound.specs.Tables.{IsTableOf, table_best, table_lead}
use Rattle.priced_bound.specs.declared.choices.TheConstants.{MOST_WORTH}
use Rattle.priced_bound.proofs.Told.{are-units}

-- ---- without a combo

pub node-within : (r : ReckoningFields) (top : ℕ) (t : TableFields) (node : ℕ) → IsTableOf r top t → node < node_count (sights_of r.g) → node < t.graph.nodes
node-within r top t node table below =
    let nodes : t.graph.nodes ≡ node_count (sights_of r.g) = table.graph.nodes in
    subst (λ (n : ℕ). node < n) (sym nodes) below

pub plain-best : (r : ReckoningFields) (top : ℕ) (t : TableFields) (budget node : ℕ) (x : SeenFields) (answer : Option ℕ) → AreReckoned r → IsTableOf r top t → IsNumber (sights_of r.g) x node →
    IsGreatestWorth t.graph t.most budget node x.need answer → answer ≡ table_best r budget (without_combo x)
plain-best r top t budget node x answer are table number worth =
    let cut : t.most ≡ MOST_WORTH = table.most in
    answer-best r.prices r.g r.units t.graph t.most budget node x.need answer are.fair (are-units r.units are.units) table.graph (omega (arith, cut)) (node-within r top t node table number.below) worth
    ∙ ap (λ (m : ℕ). best_cut m r.prices r.g r.units budget (at_need (seen_at (sights_of r.g) node) x.need)) cut
    ∙ ap (λ (y : SeenFields). table_best r budget (at_need y x.need)) number.seen

pub number-told : (b : BoundFields) (r : ReckoningFields) (top node : ℕ) (x : SeenFields) → record { by = r; top = top } ≡ b → IsNumber (sights_of b.by.g) x node → IsNumber (sights_of r.g) x node
number-told b r top node x view number = subst (λ (h : BoundFields). IsNumber (sights_of h.by.g) x node) (sym view) number

pub plain-told : (b : BoundFields) (r : ReckoningFields) (top : ℕ) (t : TableFields) (budget node : ℕ) (x y : SeenFields) (answer : Option ℕ) → record { by = r; top = top } ≡ b → y ≡ x → AreReckoned r → IsTableOf r top t →
    IsNumber (sights_of b.by.g) x node → IsGreatestWorth t.graph t.most budget node y.need answer → answer ≡ table_best b.by budget (without_combo x)
plain-told b r top t budget node x y answer view same are table number worth =
    plain-best r top t budget node x answer are table (number-told b r top node x view number) (subst (λ (z : SeenFields). IsGreatestWorth t.graph t.most budget node z.need answer) same worth)
    ∙ ap (λ (h : BoundFields). table_best h.by budget (without_combo x)) view

-- ---- with a combo

without-none : (x : SeenFields) → x.combo ≡ NoCombo → without_combo x ≡ x
without-none x none = ap (λ (c : Combo). record x { combo = c }) (sym none)

pub gain-plain : (r : ReckoningFields) (budget : ℕ) (x : SeenFields) (plain : Option ℕ) → x.combo ≡ NoCombo → plain ≡ table_best r budget (without_combo x) → plain ≡ table_best r budget x
gain-plain r budget x plain none is = is ∙ ap (λ (y : SeenFields). table_best r budget y) (without-none x none)

pub seen-ten : (r : ReckoningFields) (x : SeenFields) → IsSeenIn (sights_of r.g) x → x.iq ≤ 10
seen-ten r x in_g = let below = in_g.iq in let high = (are-sights r.g).iq.high in omega arith

pub gain-combo : (r : ReckoningFields) (budget : ℕ) (x : SeenFields) (plain most : Option ℕ) (edges : List Edge) → AreReckoned r → IsSeenIn (sights_of r.g) x → plain ≡ table_best r budget (without_combo x) →
    edges ≡ combo_edges_of r.prices r.g r.units x → most ≡ option_max plain (greatest_edge (table_lead r budget x.need) edges) → most ≡ table_best r budget x
gain-combo r budget x plain most edges are in_g is lists greatest =
    greatest
    ∙ ap (λ (o : Option ℕ). option_max o (greatest_edge (table_lead r budget x.need) edges)) is
    ∙ ap (λ (es : List Edge). option_max (table_best r budget (without_combo x)) (greatest_edge (table_lead r budget x.need) es)) lists
    ∙ combo-best MOST_WORTH r.prices r.g r.units budget x are.fair (are-units r.units are.units) (seen-ten r x in_g)

pub gain-told : (b : BoundFields) (r : ReckoningFields) (top budget : ℕ) (x y : SeenFields) (plain most : Option ℕ) (edges : List Edge) → record { by = r; top = top } ≡ b → y ≡ x → AreReckoned r → IsSeenIn (sights_of b.by.g) x →
    plain ≡ table_best b.by budget (without_combo x) → edges ≡ combo_edges_of b.by.prices b.by.g b.by.units x → most ≡ option_max plain (greatest_edge (table_lead b.by budget y.need) edges) → most ≡ table_best b.by budget x
gain-told b r top budget x y plain most edges view same are in_g is lists greatest =
    gain-combo b.by budget x plain most edges (subst (λ (h : BoundFields). AreReckoned h.by) view are) in_g is lists
    (subst (λ (z : SeenFields). most ≡ option_max plain (greatest_edge (table_lead b.by budget z.need) edges)) same greatest)

-- ---- behind an edge

unpaid : (c : Bool) (o : Option ℕ) → c ≡ false → None ≡ (if c then o else None)
unpaid c o dear_is = rw dear_is refl

dear : (cost budget : ℕ) → budget < cost → nat_le cost budget ≡ false
dear cost budget h = grind (arith, nat_tests)

pub lead-none : (r : ReckoningFields) (budget need : ℕ) (edge : Edge) → budget < edge.cost → None ≡ table_lead r budget need edge
lead-none r budget need edge h = unpaid (nat_le edge.cost budget) _ (dear edge.cost budget h)

paid : (c : Bool) (o : Option ℕ) → c ≡ true → o ≡ (if c then o else None)
paid c o fits = rw fits refl

pub lead-paid : (r : ReckoningFields) (c : SightsFields) (budget need : ℕ) (edge : Edge) (rest : Option ℕ) → edge.cost ≤ budget → LeadsOn c edge →
    rest ≡ table_best r (budget - edge.cost) (without_combo (at_need edge.to (need - edge.shift))) → option_map (λ n. min MOST_WORTH (edge.gain + n)) rest ≡ table_lead r budget need edge
lead-paid r c budget need edge rest fits leads is =
    ap (λ (o : Option ℕ). option_map (λ n. min MOST_WORTH (edge.gain + n)) o) (gain-plain r (budget - edge.cost) (at_need edge.to (need - edge.shift)) rest leads.to.combo is)
    ∙ paid (nat_le edge.cost budget) _ (le_to edge.cost budget fits)

pub seen-needing : (c : SightsFields) (x : SeenFields) (need : ℕ) → IsSeenIn c x → IsSeenIn c (at_need x need)
seen-needing c x need h = record { iq = h.iq; innovation = h.innovation; veneration = h.veneration; strides = h.strides; muscle = h.muscle; begun = h.begun }
