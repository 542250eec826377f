-- A level that stands in several lists, and the pieces that it is cut into.
use Rattle.std.specs.Prelude.{ℕ, List, [], ◌∷◌, ◌≡◌, ◌+◌, ◌<◌, ◌≤◌, length, slice_index_or}
use Rattle.std.specs.List.{flat_map}
use Rattle.std.specs.Borrow.{Bor}
use Rattle.pareto_front.specs.declared.node.Node.{Node}
use Rattle.pareto_front.specs.declared.piece.Piece.{Piece}

-- the lists, one after another
abbrev pub nodes_of : List (Bor (List Node)) → List Node
nodes_of lists = flat_map (λ list. list.now) lists

-- the nodes of the pieces, one piece after another
abbrev pub nodes_in : List Piece → List Node
nodes_in pieces = flat_map (λ piece. piece.nodes.now) pieces

-- the first piece begins at a place, and each other one where the one before it ends
abbrev pub Follow : ℕ → List Piece → Type 0
Follow place [] = Unit {0}
Follow place (piece ∷ pieces) = (piece.start ≡ place) × Follow (place + length piece.nodes.now) pieces

-- the nodes of the piece stand in the level, from its start on
pub record Stands (level : List Node) (piece : Piece) : Type 0 where
  pub inside : piece.start + length piece.nodes.now ≤ length level
  pub at : (k : ℕ) (d : Node) → k < length piece.nodes.now →
      slice_index_or level (piece.start + k) d ≡ slice_index_or piece.nodes.now k d
