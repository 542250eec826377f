-- Walks in the graph of a craft gain what lists of priced moves do.
use Rattle.std.proofs.Common.{ℕ, zero, suc, Bool, true, false, List, [], ◌∷◌, Option, Some, None, ◌≡◌, ◌≤◌, ◌<◌, ◌+◌, ◌-◌, ◌&&◌, ◌==◌, nat_le, nat_lt, min, max, refl, ◌∙◌, ap, sym, subst, arith, inl, inr, if◌then◌else◌}
use Rattle.std.specs.Option.{option_map}
use Rattle.std.proofs.lemmas.Bool.Decides.{nat_tests}
use Rattle.action_table.specs.declared.action.Action.TheVariants.{Innovation, Veneration, GreatStrides, MuscleMemory}
use Rattle.craft_settings.specs.Ranges.{SettingsFields, IsFromTo}
use Rattle.craft_settings.specs.Rules.{is_allowed}
use Rattle.relaxed_moves.specs.Optimum.{option_le, option_max}
use Rattle.relaxed_moves.proofs.Greatest.{option_le-trans, option_max-left, option_max-right, option_max-either}
use Rattle.priced_moves.specs.declared.kinds.Edge as priced
use Rattle.priced_moves.specs.declared.kinds.Prices.{Prices}
use Rattle.priced_moves.specs.declared.kinds.Units.{Units}
use Rattle.priced_moves.specs.FirstMoves.{at_end, at_need, without_combo}
use Rattle.priced_moves.specs.Moves.{SeenFields, AreUnits}
use Rattle.priced_moves.specs.Prices.{AreFair}
use Rattle.priced_moves.specs.Edges.{edges_of, combo_edges_of, edge_leads, greatest_edge}
use Rattle.priced_moves.specs.Optimum.{best}
use Rattle.priced_moves.proofs.Plans.{best-empty}
use Rattle.priced_moves.proofs.Recursion.{table-edges, table-column, combo-edges}
use Rattle.walk_table.specs.declared.graph.Edge.{Edge}
use Rattle.walk_table.specs.Graph.{GraphFields, edge_at, first_of}
use Rattle.walk_table.specs.Walks.{is_walk, is_able, total_cost, total_gain, total_shift, IsGreatestWorth}
use Rattle.priced_graph.specs.Sights.{SightsFields, AreSights, IsSight, sights_of, node_count, number_of, seen_at}
use Rattle.priced_graph.specs.Graphs.{most_gain, graph_edge, outdoes, StandsAt, IsGraphOf}
use Rattle.priced_graph.specs.Ties.{cut, best_cut, lead_cut}
use Rattle.priced_graph.proofs.Digits.{number-below, sight-seen, seen-sight}
use Rattle.priced_graph.proofs.Closed.{edges-lead_on}

-- ---- the greatest over edges

greatest-stands : (f : priced.Edge → Option ℕ) (es : List priced.Edge) (i : ℕ) (e : priced.Edge) → StandsAt es i e → option_le (f e) (greatest_edge f es)
greatest-stands f [] i e at = absurd (let below = at.0 in let x : ⊥ = omega arith in x)
greatest-stands f (d ∷ es) zero e at = subst (λ (x : priced.Edge). option_le (f x) (option_max (f d) (greatest_edge f es))) at.1 (option_max-left (f d) (greatest_edge f es))
greatest-stands f (d ∷ es) (suc i) e at =
    option_le-trans (f e) (greatest_edge f es) (option_max (f d) (greatest_edge f es))
    (greatest-stands f es i e (let below = at.0 in omega arith, at.1)) (option_max-right (f d) (greatest_edge f es))

record Found (f : priced.Edge → Option ℕ) (es : List priced.Edge) (v : ℕ) : Type 0 where
  place : ℕ
  edge : priced.Edge
  stands : StandsAt es place edge
  value : f edge ≡ Some v

greatest-found : (f : priced.Edge → Option ℕ) (es : List priced.Edge) (v : ℕ) → greatest_edge f es ≡ Some v → Found f es v
greatest-found f [] v h = absurd (cc)
greatest-found f (d ∷ es) v h = elim (option_max-either (f d) (greatest_edge f es) v h) [
  | inl here ↦ record { place = 0; edge = d; stands = (omega arith, refl); value = here }
  | inr later ↦
      let found = greatest-found f es v later in
      record { place = suc found.place; edge = found.edge; stands = (let below = found.stands.0 in omega arith, found.stands.1); value = found.value }
]

-- what is paid for and leads to something
some_by : (c : Bool) (gain : ℕ) (o : Option ℕ) (v : ℕ) → (if c then option_map (λ n. gain + n) o else None) ≡ Some v → (c ≡ true) × ((w : ℕ) × ((o ≡ Some w) × (gain + w ≡ v)))
some_by true gain None v h = absurd (cc)
some_by true gain (Some w) v h = (refl, (w, (refl, cc)))
some_by false gain o v h = absurd (cc)

lead_more : (c : Bool) (gain t : ℕ) (o : Option ℕ) → c ≡ true → option_le (Some t) o → option_le (Some (gain + t)) (if c then option_map (λ n. gain + n) o else None)
lead_more true gain t None h k = k
lead_more true gain t (Some n) h k = omega arith
lead_more false gain t o h k = absurd (cc)

-- ---- sights of a craft

count_fits : (c : Bool) (n : ℕ) → 1 ≤ n → IsFromTo 1 n (if c then n else 1)
count_fits true n h = record { low = h; high = omega arith }
count_fits false n h = record { low = omega arith; high = h }

pub are-sights : (g : SettingsFields) → AreSights (sights_of g)
unfolding sights_of
are-sights g = record {
  iq = count_fits (nat_le 11 g.level) 11 (omega arith);
  innovation = count_fits (is_allowed g Innovation) 5 (omega arith);
  veneration = count_fits (is_allowed g Veneration) 5 (omega arith);
  strides = count_fits (is_allowed g GreatStrides) 2 (omega arith);
  muscle = count_fits (is_allowed g MuscleMemory) 2 (omega arith);
  begun = count_fits g.backload 2 (omega arith);
}

seen-ten : (g : SettingsFields) (node : ℕ) → node < node_count (sights_of g) → (seen_at (sights_of g) node).iq ≤ 10
seen-ten g node below =
    let sight = sight-seen (sights_of g) node (are-sights g) below in
    let small = sight.within.iq in
    let high = (are-sights g).iq.high in
    omega arith

-- what is seen at a node, with a need
abbrev at : SettingsFields → ℕ → ℕ → SeenFields
at g node need = at_need (seen_at (sights_of g) node) need

at-sight : (g : SettingsFields) (x : SeenFields) (need : ℕ) → IsSight (sights_of g) x → at g (number_of (sights_of g) x) need ≡ at_need x need
at-sight g x need sight = ap (λ y. at_need y need) (seen-sight (sights_of g) x sight)

-- the recursion of a table, at a node
node-table : (p : Prices) (g : SettingsFields) (units : Units) (budget node need : ℕ) → AreFair g p → AreUnits units → node < node_count (sights_of g) →
    option_max (at_end (at g node need)) (greatest_edge (edge_leads p g units budget need) (edges_of p g units (seen_at (sights_of g) node))) ≡ best p g units budget (at g node need)
node-table p g units budget node need fair are below =
    ap (λ es. option_max (at_end (at g node need)) (greatest_edge (edge_leads p g units budget need) es)) (sym (table-column p g units (seen_at (sights_of g) node) need))
    ∙ table-edges p g units budget (at g node need) fair are (seen-ten g node below)

-- ---- no walk gains more than the best

record FirstStep (graph : GraphFields) (budget node need k : ℕ) (rest : List ℕ) : Type 0 where
  low : first_of graph node ≤ k
  high : k < first_of graph (node + 1)
  walk : is_walk graph (edge_at graph k).to rest ≡ true
  paid : (edge_at graph k).cost + total_cost graph rest ≤ budget
  shifts : need ≤ (edge_at graph k).shift + total_shift graph rest

low_of : (low k high c b n s : ℕ) (w : Bool) → (((nat_le low k && nat_lt k high) && w) && (nat_le c b && nat_le n s)) ≡ true → low ≤ k
low_of low k high c b n s w h = grind (arith, nat_tests)

high_of : (low k high c b n s : ℕ) (w : Bool) → (((nat_le low k && nat_lt k high) && w) && (nat_le c b && nat_le n s)) ≡ true → k < high
high_of low k high c b n s w h = grind (arith, nat_tests)

walk_of : (low k high c b n s : ℕ) (w : Bool) → (((nat_le low k && nat_lt k high) && w) && (nat_le c b && nat_le n s)) ≡ true → w ≡ true
walk_of low k high c b n s w h = grind (arith, nat_tests)

paid_of : (x w : Bool) (c b n s : ℕ) → ((x && w) && (nat_le c b && nat_le n s)) ≡ true → c ≤ b
paid_of x w c b n s h = grind (arith, nat_tests)

shifts_of : (x w : Bool) (c b n s : ℕ) → ((x && w) && (nat_le c b && nat_le n s)) ≡ true → n ≤ s
shifts_of x w c b n s h = grind (arith, nat_tests)

first-step : (graph : GraphFields) (budget node need k : ℕ) (rest : List ℕ) → is_able graph budget node need (k ∷ rest) ≡ true → FirstStep graph budget node need k rest
first-step graph budget node need k rest h = record {
  low = low_of (first_of graph node) k (first_of graph (node + 1)) _ budget need _ (is_walk graph (edge_at graph k).to rest) h;
  high = high_of (first_of graph node) k (first_of graph (node + 1)) _ budget need _ (is_walk graph (edge_at graph k).to rest) h;
  walk = walk_of (first_of graph node) k (first_of graph (node + 1)) _ budget need _ (is_walk graph (edge_at graph k).to rest) h;
  paid = paid_of (nat_le (first_of graph node) k && nat_lt k (first_of graph (node + 1))) (is_walk graph (edge_at graph k).to rest) _ budget need _ h;
  shifts = shifts_of (nat_le (first_of graph node) k && nat_lt k (first_of graph (node + 1))) (is_walk graph (edge_at graph k).to rest) _ budget need _ h;
}

able_by : (w : Bool) (c b n s : ℕ) → w ≡ true → c ≤ b → n ≤ s → (w && (nat_le c b && nat_le n s)) ≡ true
able_by w c b n s walk paid shifts = grind (arith, nat_tests)

walk_by : (low k high : ℕ) (w : Bool) → low ≤ k → k < high → w ≡ true → ((nat_le low k && nat_lt k high) && w) ≡ true
walk_by low k high w l h walk = grind (arith, nat_tests)

empty_need : (b n : ℕ) → (true && (nat_le 0 b && nat_le n 0)) ≡ true → n ≡ 0
empty_need b n h = grind (arith, nat_tests)

-- an edge of the graph, and what is behind it
behind-below : (p : Prices) (g : SettingsFields) (units : Units) (budget need t : ℕ) (edge : Edge) (e : priced.Edge) → edge ≡ graph_edge (sights_of g) e → IsSight (sights_of g) e.to → edge.cost ≤ budget →
    option_le (Some t) (best p g units (budget - edge.cost) (at g edge.to (need - edge.shift))) → option_le (Some (edge.gain + t)) (edge_leads p g units budget need e)
behind-below p g units budget need t edge e same sight paid =
    subst (λ (d : Edge). d.cost ≤ budget → option_le (Some t) (best p g units (budget - d.cost) (at g d.to (need - d.shift))) → option_le (Some (d.gain + t)) (edge_leads p g units budget need e)) (sym same)
    (λ may behind.
    let more = lead_more (nat_le e.cost budget) e.gain t (best p g units (budget - e.cost) (at_need e.to (need - e.shift))) (grind (arith, nat_tests, may))
    (subst (λ (x : SeenFields). option_le (Some t) (best p g units (budget - e.cost) x)) (at-sight g e.to (need - e.shift) sight) behind) in
    option_le-trans (Some (min most_gain e.gain + t)) (Some (e.gain + t)) _ (omega arith) more)
    paid

to_node : (c : SightsFields) (edge : Edge) (e : priced.Edge) → edge ≡ graph_edge c e → IsSight c e.to → edge.to < node_count c
to_node c edge e same sight = subst (λ (d : Edge). d.to < node_count c) (sym same) (number-below c e.to sight.within)

walk-below : (w : List ℕ) (p : Prices) (g : SettingsFields) (units : Units) (graph : GraphFields) (budget node need : ℕ) → AreFair g p → AreUnits units → IsGraphOf p g units graph → node < graph.nodes →
    is_able graph budget node need w ≡ true → option_le (Some (total_gain graph w)) (best p g units budget (at g node need))
walk-below [] p g units graph budget node need fair are tie below able = best-empty p g units budget (at g node need) fair (empty_need budget need able)
walk-below (k ∷ rest) p g units graph budget node need fair are tie below able =
    let step = first-step graph budget node need k rest able in
    let in_craft : node < node_count (sights_of g) = let is = tie.nodes in omega arith in
    let sight = sight-seen (sights_of g) node (are-sights g) in_craft in
    let one = (tie.edges node below).own k step.low step.high in
    let leads = edges-lead_on p g units (seen_at (sights_of g) node) fair sight.within one.place one.from one.stands in
    let there : (edge_at graph k).to < graph.nodes = let to = to_node (sights_of g) (edge_at graph k) one.from one.same leads.to in let is = tie.nodes in omega arith in
    let paid = step.paid in
    let shifts = step.shifts in
    let next = able_by (is_walk graph (edge_at graph k).to rest) (total_cost graph rest) (budget - (edge_at graph k).cost) (need - (edge_at graph k).shift) (total_shift graph rest) step.walk (omega arith) (omega arith) in
    let behind = walk-below rest p g units graph (budget - (edge_at graph k).cost) (edge_at graph k).to (need - (edge_at graph k).shift) fair are tie there next in
    let lead = behind-below p g units budget need (total_gain graph rest) (edge_at graph k) one.from one.same leads.to (omega arith) behind in
    let es : List priced.Edge = edges_of p g units (seen_at (sights_of g) node) in
    subst (λ (o : Option ℕ). option_le (Some (total_gain graph (k ∷ rest))) o) (node-table p g units budget node need fair are in_craft)
    (option_le-trans (Some (total_gain graph (k ∷ rest))) (greatest_edge (edge_leads p g units budget need) es) (option_max (at_end (at g node need)) (greatest_edge (edge_leads p g units budget need) es))
    (option_le-trans (Some (total_gain graph (k ∷ rest))) (edge_leads p g units budget need one.from) (greatest_edge (edge_leads p g units budget need) es) lead
    (greatest-stands (edge_leads p g units budget need) es one.place one.from one.stands))
    (option_max-right (at_end (at g node need)) (greatest_edge (edge_leads p g units budget need) es)))

-- ---- and a walk gains as much

record Walked (graph : GraphFields) (budget node need v : ℕ) : Type 0 where
  walk : List ℕ
  able : is_able graph budget node need walk ≡ true
  gains : min most_gain v ≤ total_gain graph walk

record Better (d e : Edge) : Type 0 where
  to : d.to ≡ e.to
  cost : d.cost ≤ e.cost
  gain : e.gain ≤ d.gain
  shift : e.shift ≤ d.shift

better_to : (a b c d e f h i : ℕ) → (a == b && (nat_le c d && (nat_le e f && nat_le h i))) ≡ true → a ≡ b
better_to a b c d e f h i t = grind (arith, nat_tests)

better_cost : (x : Bool) (c d e f h i : ℕ) → (x && (nat_le c d && (nat_le e f && nat_le h i))) ≡ true → c ≤ d
better_cost x c d e f h i t = grind (arith, nat_tests)

better_gain : (x : Bool) (c d e f h i : ℕ) → (x && (nat_le c d && (nat_le e f && nat_le h i))) ≡ true → e ≤ f
better_gain x c d e f h i t = grind (arith, nat_tests)

better_shift : (x : Bool) (c d e f h i : ℕ) → (x && (nat_le c d && (nat_le e f && nat_le h i))) ≡ true → h ≤ i
better_shift x c d e f h i t = grind (arith, nat_tests)

better : (d e : Edge) → outdoes d e ≡ true → Better d e
better d e h = record {
  to = better_to d.to e.to d.cost e.cost e.gain d.gain e.shift d.shift h;
  cost = better_cost (d.to == e.to) d.cost e.cost e.gain d.gain e.shift d.shift h;
  gain = better_gain (d.to == e.to) d.cost e.cost e.gain d.gain e.shift d.shift h;
  shift = better_shift (d.to == e.to) d.cost e.cost e.gain d.gain e.shift d.shift h;
}

end_by : (c : Bool) (v : ℕ) → (if c then Some 0 else None) ≡ Some v → (c ≡ true) × (v ≡ 0)
end_by true v h = (refl, cc)
end_by false v h = absurd (cc)

is_zero : (n : ℕ) → (n == 0) ≡ true → n ≡ 0
is_zero n h = grind (arith, nat_tests)

ends : (need v : ℕ) → (if need == 0 then Some 0 else None) ≡ Some v → (need ≡ 0) × (v ≡ 0)
ends need v h = let end = end_by (need == 0) v h in (is_zero need end.0, end.1)

-- one step more
walk-on : (graph : GraphFields) (budget node need k gain v : ℕ) (edge : Edge) → first_of graph node ≤ k → k < first_of graph (node + 1) → Better (edge_at graph k) edge → edge.cost ≤ budget → min most_gain gain ≤ edge.gain →
    Walked graph (budget - edge.cost) edge.to (need - edge.shift) v → Walked graph budget node need (gain + v)
walk-on graph budget node need k gain v edge low high good paid gains rest =
    let w = rest.walk in
    let walk : is_walk graph edge.to w ≡ true = walked_of (is_walk graph edge.to w) _ rest.able in
    let cost : total_cost graph w ≤ budget - edge.cost = paid_of true (is_walk graph edge.to w) (total_cost graph w) (budget - edge.cost) (need - edge.shift) (total_shift graph w) rest.able in
    let shift : need - edge.shift ≤ total_shift graph w = shifts_of true (is_walk graph edge.to w) (total_cost graph w) (budget - edge.cost) (need - edge.shift) (total_shift graph w) rest.able in
    let here : is_walk graph (edge_at graph k).to w ≡ true = subst (λ (to : ℕ). is_walk graph to w ≡ true) (sym good.to) walk in
    let less = good.cost in
    let further = good.shift in
    let more = good.gain in
    let got = rest.gains in
    record {
      walk = k ∷ w;
      able = able_by (is_walk graph node (k ∷ w)) (total_cost graph (k ∷ w)) budget need (total_shift graph (k ∷ w)) (walk_by (first_of graph node) k (first_of graph (node + 1)) (is_walk graph (edge_at graph k).to w) low high here) (omega arith) (omega arith);
      gains = omega arith;
    }
  where
    walked_of : (x y : Bool) → (x && y) ≡ true → x ≡ true
    walked_of true y h = refl
    walked_of false y h = h

walk-found : (fuel : ℕ) (p : Prices) (g : SettingsFields) (units : Units) (graph : GraphFields) (budget node need v : ℕ) → AreFair g p → AreUnits units → IsGraphOf p g units graph → node < graph.nodes → budget < fuel →
    best p g units budget (at g node need) ≡ Some v → Walked graph budget node need v
walk-found zero p g units graph budget node need v fair are tie below short is = absurd (let x : ⊥ = omega arith in x)
walk-found (suc fuel) p g units graph budget node need v fair are tie below short is =
    elim (option_max-either (at_end (at g node need)) (greatest_edge (edge_leads p g units budget need) (edges_of p g units (seen_at (sights_of g) node))) v (node-table p g units budget node need fair are in_craft ∙ is)) [
      | inl end ↦
          let none = ends need v end in
          let nothing = none.0 in
          let no_gain = none.1 in
          record { walk = []; able = able_by true 0 budget need 0 refl (omega arith) (omega arith); gains = omega arith }
      | inr lead ↦
          let found = greatest-found (edge_leads p g units budget need) (edges_of p g units (seen_at (sights_of g) node)) v lead in
          let e : priced.Edge = found.edge in
          let parts = some_by (nat_le e.cost budget) e.gain (best p g units (budget - e.cost) (at_need e.to (need - e.shift))) v found.value in
          let leads = edges-lead_on p g units (seen_at (sights_of g) node) fair (sight-seen (sights_of g) node (are-sights g) in_craft).within found.place e found.stands in
          let paid : e.cost ≤ budget = le_of e.cost budget parts.0 in
          let some : 1 ≤ e.cost = leads.cost in
          let there : number_of (sights_of g) e.to < graph.nodes = let to = number-below (sights_of g) e.to leads.to.within in let count = tie.nodes in omega arith in
          let rest = walk-found fuel p g units graph (budget - e.cost) (number_of (sights_of g) e.to) (need - e.shift) parts.1.0 fair are tie there (omega arith)
          (ap (λ (x : SeenFields). best p g units (budget - e.cost) x) (at-sight g e.to (need - e.shift) leads.to) ∙ parts.1.1.0) in
          let out = (tie.edges node below).all found.place e found.stands.0 found.stands in
          subst (λ (n : ℕ). Walked graph budget node need n) parts.1.1.1
          (walk-on graph budget node need out.place e.gain parts.1.0 (graph_edge (sights_of g) e) out.low out.high (better (edge_at graph out.place) (graph_edge (sights_of g) e) out.outdoes) paid (omega arith) rest)
    ]
  where
    in_craft : node < node_count (sights_of g)
    in_craft = let count = tie.nodes in omega arith

    le_of : (a b : ℕ) → nat_le a b ≡ true → a ≤ b
    le_of a b h = grind (arith, nat_tests)

-- ---- the table answers the best, cut

le_parts : (a v : ℕ) (o : Option ℕ) → o ≡ Some v → option_le (Some a) o → a ≤ v
le_parts a v o is h = subst (λ (q : Option ℕ). option_le (Some a) q) is h

pub greatest-best : (p : Prices) (g : SettingsFields) (units : Units) (graph : GraphFields) (most budget node need : ℕ) → AreFair g p → AreUnits units → IsGraphOf p g units graph → most ≤ most_gain → node < graph.nodes →
    IsGreatestWorth graph most budget node need (best_cut most p g units budget (at g node need))
greatest-best p g units graph most budget node need fair are tie small below =
    elim (best p g units budget (at g node need)) as (λ o. best p g units budget (at g node need) ≡ o → IsGreatestWorth graph most budget node need (cut most o)) [
      | None ↦ λ is walk. none (is_able graph budget node need walk) walk is refl
      | Some v ↦ λ is.
          let found = walk-found (suc budget) p g units graph budget node need v fair are tie below (omega arith) is in
          let up = le_parts (total_gain graph found.walk) v _ is (walk-below found.walk p g units graph budget node need fair are tie below found.able) in
          let low = found.gains in
          record {
            walk = found.walk;
            able = found.able;
            gains = omega arith;
            no_more = λ other able.
                let most_other = le_parts (total_gain graph other) v _ is (walk-below other p g units graph budget node need fair are tie below able) in
                omega arith;
          }
    ] refl
  where
    none : (t : Bool) (walk : List ℕ) → best p g units budget (at g node need) ≡ None → is_able graph budget node need walk ≡ t → t ≡ false
    none true walk is able = absurd (subst (λ (o : Option ℕ). option_le (Some (total_gain graph walk)) o) is (walk-below walk p g units graph budget node need fair are tie below able))
    none false walk is able = refl

-- one answer alone is the greatest worth
only-greatest : (graph : GraphFields) (most budget node need : ℕ) (a b : Option ℕ) → IsGreatestWorth graph most budget node need a → IsGreatestWorth graph most budget node need b → a ≡ b
only-greatest graph most budget node need None None h k = refl
only-greatest graph most budget node need None (Some v) h k = absurd (let no = h k.walk in let yes = k.able in cc)
only-greatest graph most budget node need (Some v) None h k = absurd (let no = k h.walk in let yes = h.able in cc)
only-greatest graph most budget node need (Some v) (Some w) h k =
    let up = k.no_more h.walk h.able in
    let down = h.no_more k.walk k.able in
    let here = h.gains in
    let there = k.gains in
    let same : v ≡ w = omega arith in
    ap (λ (n : ℕ). Some n) same

pub answer-best : (p : Prices) (g : SettingsFields) (units : Units) (graph : GraphFields) (most budget node need : ℕ) (answer : Option ℕ) → AreFair g p → AreUnits units → IsGraphOf p g units graph → most ≤ most_gain → node < graph.nodes →
    IsGreatestWorth graph most budget node need answer → answer ≡ best_cut most p g units budget (at g node need)
answer-best p g units graph most budget node need answer fair are tie small below h =
    only-greatest graph most budget node need answer _ h (greatest-best p g units graph most budget node need fair are tie small below)

-- ---- what a combo adds

cut-max : (most : ℕ) (a b : Option ℕ) → cut most (option_max a b) ≡ option_max (cut most a) (cut most b)
cut-max most None b = refl
cut-max most (Some m) None = refl
cut-max most (Some m) (Some n) = let e : min most (max m n) ≡ max (min most m) (min most n) = omega arith in ap (λ (k : ℕ). Some k) e

cut-lead : (most gain : ℕ) (c : Bool) (o : Option ℕ) → cut most (if c then option_map (λ n. gain + n) o else None) ≡ (if c then option_map (λ n. min most (gain + n)) (cut most o) else None)
cut-lead most gain true None = refl
cut-lead most gain true (Some n) = let e : min most (gain + n) ≡ min most (gain + min most n) = omega arith in ap (λ (k : ℕ). Some k) e
cut-lead most gain false o = refl

cut-greatest : (most : ℕ) (p : Prices) (g : SettingsFields) (units : Units) (budget need : ℕ) (es : List priced.Edge) →
    cut most (greatest_edge (edge_leads p g units budget need) es) ≡ greatest_edge (lead_cut most p g units budget need) es
cut-greatest most p g units budget need [] = refl
cut-greatest most p g units budget need (e ∷ es) =
    cut-max most (edge_leads p g units budget need e) (greatest_edge (edge_leads p g units budget need) es)
    ∙ ap (λ o. option_max o (cut most (greatest_edge (edge_leads p g units budget need) es))) (cut-lead most e.gain (nat_le e.cost budget) (best p g units (budget - e.cost) (at_need e.to (need - e.shift))))
    ∙ ap (λ o. option_max (lead_cut most p g units budget need e) o) (cut-greatest most p g units budget need es)

pub combo-best : (most : ℕ) (p : Prices) (g : SettingsFields) (units : Units) (budget : ℕ) (x : SeenFields) → AreFair g p → AreUnits units → x.iq ≤ 10 →
    option_max (best_cut most p g units budget (without_combo x)) (greatest_edge (lead_cut most p g units budget x.need) (combo_edges_of p g units x)) ≡ best_cut most p g units budget x
combo-best most p g units budget x fair are bound =
    ap (λ o. option_max (best_cut most p g units budget (without_combo x)) o) (sym (cut-greatest most p g units budget x.need (combo_edges_of p g units x)))
    ∙ sym (cut-max most (best p g units budget (without_combo x)) (greatest_edge (edge_leads p g units budget x.need) (combo_edges_of p g units x)))
    ∙ ap (λ o. cut most o) (combo-edges p g units budget x fair are bound)
