-- The graph of a craft: its nodes are the sights, and the edges of a node those that priced moves lead over from there.
use Rattle.std.specs.Prelude.{ℕ, Bool, true, List, ◌≡◌, ◌≤◌, ◌<◌, ◌+◌, ◌&&◌, ◌==◌, nat_le, min, length, slice_index_or}
use Rattle.craft_settings.specs.Ranges.{SettingsFields}
use Rattle.priced_moves.specs.declared.kinds.Edge as priced
use Rattle.priced_moves.specs.declared.kinds.Prices.{Prices}
use Rattle.priced_moves.specs.declared.kinds.Units.{Units}
use Rattle.priced_moves.specs.Edges.{edges_of}
use Rattle.walk_table.specs.declared.graph.Edge.{Edge}
use Rattle.walk_table.specs.Graph.{GraphFields, edge_at, first_of}
use Rattle.priced_graph.specs.Sights.{SightsFields, IsSight, sights_of, node_count, number_of, seen_at}

-- the most that an edge of a graph gains
abbrev pub most_gain : ℕ
most_gain = 65535

-- the edge between the nodes; its gain is cut
abbrev pub graph_edge : SightsFields → priced.Edge → Edge
graph_edge c edge = record {
  cost = edge.cost;
  gain = min most_gain edge.gain;
  shift = edge.shift;
  to = number_of c edge.to;
}

-- one edge leads where another does, costs no more, and gains and shifts no less
abbrev pub outdoes : Edge → Edge → Bool
outdoes d e = d.to == e.to && (nat_le d.cost e.cost && (nat_le e.gain d.gain && nat_le e.shift d.shift))

-- the edge stands at a place of the list
abbrev pub StandsAt : List priced.Edge → ℕ → priced.Edge → Type 0
StandsAt edges i edge = (i < length edges) × (slice_index_or edges i edge ≡ edge)

-- the edge costs something and leads to a sight
pub record LeadsOn (c : SightsFields) (edge : priced.Edge) : Type 0 where
  pub cost : 1 ≤ edge.cost
  pub to : IsSight c edge.to

abbrev pub LeadOn : SightsFields → List priced.Edge → Type 0
LeadOn c edges = (i : ℕ) (edge : priced.Edge) → StandsAt edges i edge → LeadsOn c edge

-- one of the edges at the places from a first on and below an end outdoes the edge
pub record IsOutdone (graph : GraphFields) (from to : ℕ) (edge : Edge) : Type 0 where
  pub place : ℕ
  pub low : from ≤ place
  pub high : place < to
  pub outdoes : outdoes (edge_at graph place) edge ≡ true

-- the graph's edge at a place is one of the first so many of the list
pub record IsOneOf (c : SightsFields) (edges : List priced.Edge) (count : ℕ) (edge : Edge) : Type 0 where
  pub place : ℕ
  pub below : place < count
  pub from : priced.Edge
  pub stands : StandsAt edges place from
  pub same : edge ≡ graph_edge c from

-- the edges at these places stand for the first so many of the list: each is one of them, and each of them is outdone
pub record StandFor (c : SightsFields) (graph : GraphFields) (from to : ℕ) (edges : List priced.Edge) (count : ℕ) : Type 0 where
  pub own : (k : ℕ) → from ≤ k → k < to → IsOneOf c edges count (edge_at graph k)
  pub all : (i : ℕ) (edge : priced.Edge) → i < count → StandsAt edges i edge → IsOutdone graph from to (graph_edge c edge)

-- the edges of a node stand for these
abbrev pub AreEdgesOf : SightsFields → GraphFields → ℕ → List priced.Edge → Type 0
AreEdgesOf c graph node edges = StandFor c graph (first_of graph node) (first_of graph (node + 1)) edges (length edges)

-- the graph of a craft: the edges of each node stand for those of its sight
pub record IsGraphOf (p : Prices) (g : SettingsFields) (units : Units) (graph : GraphFields) : Type 0 where
  pub nodes : graph.nodes ≡ node_count (sights_of g)
  pub edges : (node : ℕ) → node < graph.nodes
      → AreEdgesOf (sights_of g) graph node (edges_of p g units (seen_at (sights_of g) node))
