-- The states that wait, on shelves by their places.
use Rattle.std.specs.Prelude.{ℕ, List, [], ◌∷◌, ◌++◌, ◌≡◌, Contains, slice_index_or, slice_set}
use Rattle.craft_state.specs.Craft.{StateFields}
use Rattle.quality_sweep.specs.declared.candidate.Candidate.{Candidate}
use Rattle.quality_sweep.specs.Places.{place_of}

pub record ShelvesFields : Type 0 where
  pub width : ℕ
  pub lists : List (List Candidate)

-- what lies on the shelf at a place
abbrev pub shelf : ShelvesFields → ℕ → List Candidate
shelf shelves place = slice_index_or shelves.lists place []

-- the shelves where one more candidate lies last on the shelf of its place
abbrev pub put_on : ShelvesFields → Candidate → ShelvesFields
put_on shelves c = record {
  width = shelves.width;
  lists = slice_set shelves.lists (place_of shelves.width c.state) (shelf shelves (place_of shelves.width c.state) ++ c ∷ []);
}

-- the shelves where one of them is empty
abbrev pub cleared : ShelvesFields → ℕ → ShelvesFields
cleared shelves place = record { width = shelves.width; lists = slice_set shelves.lists place [] }

-- the state lies on some shelf
pub record Waits (shelves : ShelvesFields) (s : StateFields) : Type 0 where
  pub place : ℕ
  pub candidate : Candidate
  pub there : Contains (shelf shelves place) candidate
  pub same : candidate.state ≡ s
