-- Pieces that a worker made.
use Rattle.std.specs.Prelude.{ℕ, ◌<◌, ◌≤◌, List, Vec, Result, IfOk, length, slice_index_or}
use Rattle.walk_table.specs.declared.filling.Made.{Made}
use Rattle.walk_table.specs.Graph.{GraphFields}
use Rattle.walk_table.specs.Pieces.{IsPiece}

-- a piece of one of the places from a first on and below an end
pub record IsMade (g : GraphFields) (needs from to : ℕ) (made : Made) : Type 0 where
  pub low : from ≤ made.place
  pub high : made.place < to
  pub piece : IsPiece g needs made.place made.words.items

pub record AreMade (g : GraphFields) (needs from to : ℕ) (made : List Made) : Type 0 where
  pub at : (k : ℕ) (d : Made) → k < length made → IsMade g needs from to (slice_index_or made k d)

-- each place lies from a first one on and below an end
pub record ArePlaced (from to : ℕ) (made : List Made) : Type 0 where
  pub at : (k : ℕ) (d : Made) → k < length made → (from ≤ (slice_index_or made k d).place) × ((slice_index_or made k d).place < to)

-- the same of each worker that had memory
abbrev pub AreMadeEach : {A E : Type 0} → GraphFields → ℕ → ℕ → ℕ → List (Result (Vec Made A) E) → Type 0
AreMadeEach g needs from to parts =
    (i : ℕ) (d : Result (Vec Made _) _) → i < length parts → IfOk (slice_index_or parts i d) (λ made. AreMade g needs from to made.items)
