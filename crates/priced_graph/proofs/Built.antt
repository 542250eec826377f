-- Graphs with one more edge, and with one more node.
use Rattle.std.proofs.Common.{ℕ, true, List, [], ◌∷◌, ◌++◌, ◌≡◌, ◌≤◌, ◌<◌, ◌+◌, ◌&&◌, ◌==◌, nat_le, min, length, get_or, refl, ◌∙◌, ap, sym, subst, arith, inl, inr, length-append}
use Rattle.std.proofs.lemmas.Bool.Decides.{nat_tests}
use Rattle.std.proofs.lemmas.Bool.{cases_lt}
use Rattle.std.proofs.lemmas.List.{get_or_default, get_or_past, get_or_append_left, get_or_push}
use Rattle.craft_settings.specs.Ranges.{SettingsFields}
use Rattle.priced_moves.specs.declared.kinds.Edge as priced
use Rattle.priced_moves.specs.declared.kinds.Prices.{Prices}
use Rattle.priced_moves.specs.declared.kinds.Units.{Units}
use Rattle.priced_moves.specs.Edges.{edges_of}
use Rattle.priced_moves.specs.Moves.{SeenFields}
use Rattle.priced_moves.specs.Prices.{AreFair}
use Rattle.walk_table.specs.declared.graph.Edge.{Edge}
use Rattle.walk_table.specs.Graph.{GraphFields, no_edge, edge_at, first_of}
use Rattle.priced_graph.specs.Sights.{SightsFields, IsSight, sights_of, node_count, number_of, seen_at}
use Rattle.priced_graph.specs.Graphs.{most_gain, graph_edge, outdoes, StandsAt, IsOneOf, IsOutdone, StandFor, LeadOn, IsGraphOf}
use Rattle.priced_graph.specs.Building.{GoesOn, IsAdded, IsNodeAdded, IsBuilt}
use Rattle.priced_graph.proofs.Closed.{edges-lead_on}

-- ---- one more edge

-- it was added, whatever outdoes it: itself
outdoes-itself : (a b c d : ℕ) → (a == a && (nat_le b b && (nat_le c c && nat_le d d))) ≡ true
outdoes-itself a b c d = grind (arith, nat_tests)

pub edge-pushed : (c : SightsFields) (old new : GraphFields) (from : ℕ) (e : priced.Edge) (edge : Edge) → edge ≡ graph_edge c e → from ≤ length old.edges →
    new.nodes ≡ old.nodes → new.first ≡ old.first → new.edges ≡ old.edges ++ edge ∷ [] → IsAdded c old new from e
edge-pushed c old new from e edge same within nodes first edges = record {
  on = record { nodes = nodes; long = omega (arith, long); kept = kept };
  first = first;
  own = λ k low high. let here : length old.edges ≡ k = omega (arith, long, low, high) in last k here;
  outdone = record {
    place = length old.edges;
    low = within;
    high = omega (arith, long);
    outdoes = subst (λ (d : Edge). outdoes d (graph_edge c e) ≡ true) (sym (last (length old.edges) refl)) (outdoes-itself (number_of c e.to) e.cost (min most_gain e.gain) e.shift);
  };
}
  where
    long : length new.edges ≡ length old.edges + 1
    long = ap (λ es. length es) edges ∙ length-append old.edges (edge ∷ [])

    kept : (k : ℕ) → k < length old.edges → edge_at new k ≡ edge_at old k
    kept k below = ap (λ es. get_or es k no_edge) edges ∙ get_or_append_left old.edges (edge ∷ []) no_edge k below

    last : (k : ℕ) → length old.edges ≡ k → edge_at new k ≡ graph_edge c e
    last k here = ap (λ es. get_or es k no_edge) edges ∙ get_or_push old.edges edge no_edge k here ∙ same

pub edge-left_out : (c : SightsFields) (graph : GraphFields) (from : ℕ) (e : priced.Edge) (edge : Edge) → edge ≡ graph_edge c e → IsOutdone graph from (length graph.edges) edge → IsAdded c graph graph from e
edge-left_out c graph from e edge same out = record {
  on = record { nodes = refl; long = omega arith; kept = λ k below. refl };
  first = refl;
  own = λ k low high. absurd (let x : ⊥ = omega arith in x);
  outdone = subst (λ (d : Edge). IsOutdone graph from (length graph.edges) d) same out;
}

-- ---- one more edge of a node

moved-out : (old new : GraphFields) (from to to' : ℕ) (edge : Edge) → ((k : ℕ) → k < to → edge_at new k ≡ edge_at old k) → to ≤ to' → IsOutdone old from to edge → IsOutdone new from to' edge
moved-out old new from to to' edge kept more out =
    let high = out.high in
    record {
      place = out.place;
      low = out.low;
      high = omega arith;
      outdoes = subst (λ (d : Edge). outdoes d edge ≡ true) (sym (kept out.place high)) out.outdoes;
    }

one-more : (c : SightsFields) (edges : List priced.Edge) (count : ℕ) (d edge : Edge) → d ≡ edge → IsOneOf c edges count edge → IsOneOf c edges (count + 1) d
one-more c edges count d edge is one =
    let below = one.below in
    record { place = one.place; below = omega arith; from = one.from; stands = one.stands; same = is ∙ one.same }

pub node-begun : (c : SightsFields) (old new : GraphFields) (edges : List priced.Edge) → new.nodes ≡ old.nodes → new.first ≡ old.first ++ length old.edges ∷ [] → new.edges ≡ old.edges → IsNodeAdded c old new edges 0
node-begun c old new edges nodes first same =
    let long = ap (λ es. length es) same in
    record {
      on = record { nodes = nodes; long = omega arith; kept = λ k below. ap (λ es. get_or es k no_edge) same };
      first = first;
      stand = record {
        own = λ k low high. absurd (let x : ⊥ = omega arith in x);
        all = λ i edge below. absurd (let x : ⊥ = omega arith in x);
      };
    }

same-place : (es : List priced.Edge) (a b : ℕ) (d f : priced.Edge) → a ≡ b → StandsAt es a d → StandsAt es b f → d ≡ f
same-place es a b d f is at_d at_f =
    sym at_d.1 ∙ get_or_default es a d f at_d.0 ∙ ap (λ (i : ℕ). get_or es i f) is ∙ at_f.1

pub node-more : (c : SightsFields) (old mid new : GraphFields) (edges : List priced.Edge) (count : ℕ) (e : priced.Edge) → StandsAt edges count e → IsNodeAdded c old mid edges count → IsAdded c mid new (length old.edges) e → IsNodeAdded c old new edges (count + 1)
node-more c old mid new edges count e stands node added = record {
  on = record {
    nodes = added.on.nodes ∙ node.on.nodes;
    long = omega (arith, node.on.long, added.on.long);
    kept = λ k below. added.on.kept k (omega (arith, node.on.long, below)) ∙ node.on.kept k below;
  };
  first = added.first ∙ node.first;
  stand = record { own = own; all = all };
}
  where
    first_long : length old.edges ≤ length mid.edges
    first_long = node.on.long

    then_long : length mid.edges ≤ length new.edges
    then_long = added.on.long

    own : (k : ℕ) → length old.edges ≤ k → k < length new.edges → IsOneOf c edges (count + 1) (edge_at new k)
    own k low high = elim (cases_lt k (length mid.edges)) [
      | inl before ↦ one-more c edges count (edge_at new k) (edge_at mid k) (added.on.kept k before) (node.stand.own k low before)
      | inr after ↦ record { place = count; below = omega arith; from = e; stands = stands; same = added.own k after high }
    ]

    all : (i : ℕ) (edge : priced.Edge) → i < count + 1 → StandsAt edges i edge → IsOutdone new (length old.edges) (length new.edges) (graph_edge c edge)
    all i edge below at = elim (cases_lt i count) [
      | inl before ↦ moved-out mid new (length old.edges) (length mid.edges) (length new.edges) (graph_edge c edge) added.on.kept then_long (node.stand.all i edge before at)
      | inr after ↦
          let here : count ≡ i = omega arith in
          subst (λ (d : priced.Edge). IsOutdone new (length old.edges) (length new.edges) (graph_edge c d)) (same-place edges count i e edge here stands at) added.outdone
    ]

-- ---- one more node

pub none-built : (c : SightsFields) (graph : GraphFields) (edges : ℕ → List priced.Edge) → graph.first ≡ [] → graph.edges ≡ [] → IsBuilt c graph edges 0
none-built c graph edges first none = record {
  started = ap (λ l. length l) first;
  within = λ node. let at : first_of graph node ≡ length graph.edges = ap (λ l. get_or l node (length graph.edges)) first in omega arith;
  stand = λ node below. absurd (let x : ⊥ = omega arith in x);
}

-- what stood in the graph of before
stood : (c : SightsFields) (old new : GraphFields) (from to : ℕ) (es : List priced.Edge) (n : ℕ) → GoesOn old new → to ≤ length old.edges → StandFor c old from to es n → StandFor c new from to es n
stood c old new from to es n on inside h = record {
  own = λ k low high. subst (λ (d : Edge). IsOneOf c es n d) (sym (on.kept k (omega (arith, high, inside)))) (h.own k low high);
  all = λ i edge below at. moved-out old new from to to (graph_edge c edge) (λ k high. on.kept k (omega (arith, high, inside))) (omega arith) (h.all i edge below at);
}

pub more-built : (c : SightsFields) (old new : GraphFields) (edges : ℕ → List priced.Edge) (count : ℕ) → IsBuilt c old edges count → IsNodeAdded c old new (edges count) (length (edges count)) → IsBuilt c new edges (count + 1)
more-built c old new edges count built node = record {
  started = let sum = ap (λ l. length l) node.first ∙ length-append old.first (length old.edges ∷ []) in let is = built.started in omega arith;
  within = within;
  stand = stand;
}
  where
    -- the places at which nodes begin, up to that of the new one
    begins : (m : ℕ) → m ≤ count → first_of new m ≡ first_of old m
    begins m low = elim (cases_lt m (length old.first)) [
      | inl before ↦
          ap (λ l. get_or l m (length new.edges)) node.first
          ∙ get_or_append_left old.first (length old.edges ∷ []) (length new.edges) m before
          ∙ get_or_default old.first m (length new.edges) (length old.edges) before
      | inr after ↦
          let here : length old.first ≡ m = let is = built.started in omega arith in
          ap (λ l. get_or l m (length new.edges)) node.first
          ∙ get_or_push old.first (length old.edges) (length new.edges) m here
          ∙ sym (get_or_past old.first m (length old.edges) after)
    ]

    -- and after it
    past : (m : ℕ) → count < m → first_of new m ≡ length new.edges
    past m high = ap (λ l. get_or l m (length new.edges)) node.first ∙ get_or_past (old.first ++ length old.edges ∷ []) m (length new.edges) (let sum = length-append old.first (length old.edges ∷ []) in let is = built.started in omega arith)

    last_begins : first_of old count ≡ length old.edges
    last_begins = get_or_past old.first count (length old.edges) (let is = built.started in omega arith)

    within : (m : ℕ) → first_of new m ≤ length new.edges
    within m = elim (cases_lt count m) [
      | inl high ↦ let is = past m high in omega arith
      | inr low ↦ let is = begins m low in let old_within = built.within m in let long = node.on.long in omega arith
    ]

    stand : (m : ℕ) → m < count + 1 → StandFor c new (first_of new m) (first_of new (m + 1)) (edges m) (length (edges m))
    stand m below = elim (cases_lt m count) [
      | inl before ↦
          let ends : first_of old (m + 1) ≤ length old.edges = built.within (m + 1) in
          subst (λ (a : ℕ). StandFor c new a (first_of new (m + 1)) (edges m) (length (edges m))) (sym (begins m (omega arith)))
          (subst (λ (b : ℕ). StandFor c new (first_of old m) b (edges m) (length (edges m))) (sym (begins (m + 1) (omega arith)))
          (stood c old new (first_of old m) (first_of old (m + 1)) (edges m) (length (edges m)) node.on ends (built.stand m before)))
      | inr after ↦
          let here : count ≡ m = omega arith in
          subst (λ (n : ℕ). StandFor c new (first_of new n) (first_of new (n + 1)) (edges n) (length (edges n))) here
          (subst (λ (a : ℕ). StandFor c new a (first_of new (count + 1)) (edges count) (length (edges count))) (sym (begins count (omega arith) ∙ last_begins))
          (subst (λ (b : ℕ). StandFor c new (length old.edges) b (edges count) (length (edges count))) (sym (past (count + 1) (omega arith))) node.stand))
    ]

-- ---- the graph of a craft

-- the edges that are listed at each node
abbrev pub listed_at : Prices → SettingsFields → Units → ℕ → List priced.Edge
listed_at p g units node = edges_of p g units (seen_at (sights_of g) node)

pub node-built : (p : Prices) (g : SettingsFields) (units : Units) (c : SightsFields) (x : SeenFields) (listed : List priced.Edge) (old new : GraphFields) (node : ℕ) → c ≡ sights_of g → x ≡ seen_at c node → listed ≡ edges_of p g units x →
    IsBuilt (sights_of g) old (listed_at p g units) node → IsNodeAdded c old new listed (length listed) → IsBuilt (sights_of g) new (listed_at p g units) (node + 1)
node-built p g units c x listed old new node craft seen lists built added =
    let all : listed ≡ listed_at p g units node = lists ∙ ap (λ (y : SeenFields). edges_of p g units y) (seen ∙ ap (λ (d : SightsFields). seen_at d node) craft) in
    more-built (sights_of g) old new (listed_at p g units) node built
    (subst (λ (l : List priced.Edge). IsNodeAdded (sights_of g) old new l (length l)) all
    (subst (λ (d : SightsFields). IsNodeAdded d old new listed (length listed)) craft added))

pub node-leads : (p : Prices) (g : SettingsFields) (units : Units) (c : SightsFields) (x : SeenFields) (listed : List priced.Edge) → AreFair g p → c ≡ sights_of g → IsSight c x → listed ≡ edges_of p g units x → LeadOn c listed
node-leads p g units c x listed fair craft sight lists =
    subst (λ (l : List priced.Edge). LeadOn c l) (sym lists)
    (subst (λ (d : SightsFields). LeadOn d (edges_of p g units x)) (sym craft)
    (edges-lead_on p g units x fair (subst (λ (d : SightsFields). IsSight d x) craft sight).within))

pub built-whole : (p : Prices) (g : SettingsFields) (units : Units) (graph : GraphFields) (count : ℕ) → graph.nodes ≡ node_count (sights_of g) → node_count (sights_of g) ≤ count →
    IsBuilt (sights_of g) graph (listed_at p g units) count → IsGraphOf p g units graph
built-whole p g units graph count nodes whole built = record {
  nodes = nodes;
  edges = λ node below. built.stand node (omega arith);
}
