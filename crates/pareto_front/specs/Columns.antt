-- CP, durability and quality, and columns of them as one list.
use Rattle.std.specs.Prelude.{ℕ, Bool, true, false, List, [], ◌∷◌, ◌≡◌, ◌<◌, ◌&&◌, nat_le, length, slice_index, slice_index_or}
use Rattle.craft_state.specs.Craft.{StateFields}
pub use Rattle.pareto_front.specs.declared.numbers.Numbers.{Numbers}

abbrev pub numbers_of : StateFields → Numbers
numbers_of s = record { cp = s.cp; durability = s.durability; quality = s.quality }

-- no number of the first is less
unfoldable pub are_no_less : Numbers → Numbers → Bool
are_no_less a b = nat_le b.cp a.cp && nat_le b.durability a.durability && nat_le b.quality a.quality

-- the entries of three columns, place by place
abbrev pub rows : List ℕ → List ℕ → List ℕ → List Numbers
rows (cp ∷ cps) (durability ∷ durabilities) (quality ∷ qualities) =
    record { cp = cp; durability = durability; quality = quality } ∷ rows cps durabilities qualities
rows _ _ _ = []

-- CP, durability and quality are not less than the three numbers
abbrev pub is_enough : List ℕ → Numbers → Bool
is_enough c row = nat_le (slice_index c 0) row.cp && nat_le (slice_index c 1) row.durability && nat_le (slice_index c 2) row.quality

-- none of the first n entries is enough
abbrev pub NoneEnough : List ℕ → List Numbers → ℕ → Type 0
NoneEnough c entries n = (k : ℕ) (d : Numbers) → k < n → is_enough c (slice_index_or entries k d) ≡ false

-- the entry at place n is the first that is enough
pub record IsFirstEnough (c : List ℕ) (entries : List Numbers) (n : ℕ) : Type 0 where
  pub inside : n < length entries
  pub enough : (d : Numbers) → is_enough c (slice_index_or entries n d) ≡ true
  pub first : NoneEnough c entries n
