-- A graph while its nodes are added.
use Rattle.std.specs.Prelude.{ℕ, List, [], ◌∷◌, ◌++◌, ◌≡◌, ◌≤◌, ◌<◌, length}
use Rattle.priced_moves.specs.declared.kinds.Edge as priced
use Rattle.walk_table.specs.Graph.{GraphFields, edge_at, first_of}
use Rattle.priced_graph.specs.Sights.{SightsFields}
use Rattle.priced_graph.specs.Graphs.{graph_edge, IsOutdone, StandFor, AreEdgesOf}

-- the edges of before stand where they stood
pub record GoesOn (old new : GraphFields) : Type 0 where
  pub nodes : new.nodes ≡ old.nodes
  pub long : length old.edges ≤ length new.edges
  pub kept : (k : ℕ) → k < length old.edges → edge_at new k ≡ edge_at old k

-- an edge was added, if none at the places from a first on outdoes it
pub record IsAdded (c : SightsFields) (old new : GraphFields) (from : ℕ) (edge : priced.Edge) : Type 0 where
  pub on : GoesOn old new
  pub first : new.first ≡ old.first
  pub own : (k : ℕ) → length old.edges ≤ k → k < length new.edges → edge_at new k ≡ graph_edge c edge
  pub outdone : IsOutdone new from (length new.edges) (graph_edge c edge)

-- a node was started, and edges were added that stand for the first so many of a list
pub record IsNodeAdded (c : SightsFields) (old new : GraphFields) (edges : List priced.Edge) (count : ℕ) : Type 0 where
  pub on : GoesOn old new
  pub first : new.first ≡ old.first ++ length old.edges ∷ []
  pub stand : StandFor c new (length old.edges) (length new.edges) edges count

-- each node that was started has edges that stand for those of its list
pub record IsBuilt (c : SightsFields) (graph : GraphFields) (edges : ℕ → List priced.Edge) (count : ℕ) : Type 0 where
  pub started : length graph.first ≡ count
  pub within : (node : ℕ) → first_of graph node ≤ length graph.edges
  pub stand : (node : ℕ) → node < count → AreEdgesOf c graph node (edges node)
