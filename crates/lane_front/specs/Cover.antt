-- Which entries of three columns cover three numbers.
use Rattle.std.specs.Prelude.{ℕ, ◌≤◌, ◌<◌, ◌&&◌, Bool, List, length, slice_index, nat_le}

-- each column has at place k at least the number that c wants of it
abbrev pub Covers : List ℕ → List ℕ → List ℕ → List ℕ → ℕ → Type 0
Covers cp dur quality c k = (slice_index c 0 ≤ slice_index cp k) × (slice_index c 1 ≤ slice_index dur k)
    × (slice_index c 2 ≤ slice_index quality k)

-- no place from `from` on and below `to` covers
abbrev pub NoneCovers : List ℕ → List ℕ → List ℕ → List ℕ → ℕ → ℕ → Type 0
NoneCovers cp dur quality c from to = (k : ℕ) → from ≤ k → k < to → ¬ Covers cp dur quality c k

-- place k is the least one that covers
abbrev pub IsFirstCover : List ℕ → List ℕ → List ℕ → List ℕ → ℕ → Type 0
IsFirstCover cp dur quality c k = (k < length cp) × Covers cp dur quality c k × NoneCovers cp dur quality c 0 k

-- `Covers` as a test
abbrev pub is_covering : List ℕ → List ℕ → List ℕ → List ℕ → ℕ → Bool
is_covering cp dur quality c k = nat_le (slice_index c 0) (slice_index cp k)
    && nat_le (slice_index c 1) (slice_index dur k) && nat_le (slice_index c 2) (slice_index quality k)
