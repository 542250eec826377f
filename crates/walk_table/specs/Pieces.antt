-- Pieces of a table: columns of up to 64 nodes that stand in turn, at one budget.
use Rattle.std.specs.Prelude.{ℕ, ◌≡◌, ◌<◌, ◌≤◌, ◌+◌, ◌-◌, ◌*◌, ◌/◌, ◌%◌, ◌^◌, ⊤, List, Vec, Option, MatchOption, min, length, slice_index, slice_index_or}
use Rattle.std.specs.Int.{div_ceil}
use Rattle.walk_table.specs.Graph.{GraphFields, edge_at}
use Rattle.walk_table.specs.Tops.{word_of, IsTop}

-- the columns of how many nodes stand in a piece
abbrev pub piece_nodes : ℕ
piece_nodes = 64

-- how many pieces a budget has
abbrev pub pieces_of : ℕ → ℕ
pieces_of nodes = div_ceil nodes piece_nodes

-- the words are columns of a budget, of so many words each, from a node on
pub record AreColumns (g : GraphFields) (budget first needs : ℕ) (words : List ℕ) : Type 0 where
  pub at : (i : ℕ) → i < length words → IsTop (word_of g budget (first + i / needs) (i % needs)) (slice_index words i)

-- the words are a part of a budget: the last part has the nodes that are left
pub record IsPart (g : GraphFields) (needs budget part : ℕ) (words : List ℕ) : Type 0 where
  pub long : length words ≡ min piece_nodes (g.nodes - part * piece_nodes) * needs
  pub right : AreColumns g budget (part * piece_nodes) needs words

-- pieces stand budget by budget
abbrev pub IsPiece : GraphFields → ℕ → ℕ → List ℕ → Type 0
IsPiece g needs place words = IsPart g needs (place / pieces_of g.nodes) (place % pieces_of g.nodes) words

-- the pieces from a place on
pub record ArePieces {A : Type 0} (g : GraphFields) (needs first : ℕ) (pieces : List (Vec ℕ A)) : Type 0 where
  pub at : (k : ℕ) (d : Vec ℕ A) → k < length pieces → IsPiece g needs (first + k) (slice_index_or pieces k d).items

-- the same, but some may be left out
pub record AreSlots {A : Type 0} (g : GraphFields) (needs first : ℕ) (slots : List (Option (Vec ℕ A))) : Type 0 where
  pub at : (k : ℕ) (d : Option (Vec ℕ A)) → k < length slots
      → MatchOption (slice_index_or slots k d) ⊤ (λ piece. IsPiece g needs (first + k) piece.items)

-- a graph, so many needs, and the budgets below a number
pub record FilledFields : Type 0 where
  pub graph : GraphFields
  pub needs : ℕ
  pub budgets : ℕ

-- all pieces of the budgets below a number
pub record IsFilled {A : Type 0} (g : GraphFields) (needs budgets : ℕ) (pieces : List (Vec ℕ A)) : Type 0 where
  pub some : 0 < needs
  pub fits : g.nodes * needs < 2 ^ 64
  pub long : length pieces ≡ budgets * pieces_of g.nodes
  pub right : ArePieces g needs 0 pieces

-- no edge leads from a budget below end to a budget that isn't below start
abbrev pub IsNear : GraphFields → ℕ → ℕ → Type 0
IsNear g start end = (k : ℕ) → k < length g.edges → end ≤ start + (edge_at g k).cost

-- the piece at a place can be made from those of the budgets below start
abbrev pub IsReady : GraphFields → ℕ → ℕ → Type 0
IsReady g start place = (0 < g.nodes) × IsNear g start (place / pieces_of g.nodes + 1)
