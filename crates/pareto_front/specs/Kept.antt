-- Which states the states of a list cover, and groups of kept states by their keys.
use Rattle.std.specs.Prelude.{ℕ, Bool, List, [], ◌∷◌, ◌≡◌, ◌==◌, if◌then◌else◌, length, map, filter}
use Rattle.std.specs.List.{All, Contains, list_any}
use Rattle.craft_state.specs.Craft.{StateFields, AreEffects}
use Rattle.craft_state.specs.NotLess.{IsNotLess, is_not_less}
use Rattle.pareto_front.specs.Columns.{Numbers, numbers_of}
use Rattle.pareto_front.specs.Keys.{key_of}

-- some state of the list is not less than this one
abbrev pub is_covered : List StateFields → StateFields → Bool
is_covered kept s = list_any (λ k. is_not_less k s) kept

-- a state of the list that is not less
pub record IsCovered (kept : List StateFields) (s : StateFields) : Type 0 where
  pub cover : StateFields
  pub is_kept : Contains kept cover
  pub not_less : IsNotLess cover s

-- the numbers of the states with a key, in order
abbrev pub numbers_with : ℕ → List StateFields → List Numbers
numbers_with key states = map numbers_of (filter (λ s. key == key_of s) states)

-- the group that stands at the place of a key, and the empty one where the key is not there
abbrev pub group_at : List ℕ → List (List Numbers) → ℕ → List Numbers
group_at (k ∷ keys) (group ∷ groups) key = if key == k then group else group_at keys groups key
group_at _ _ key = []

-- at each key stand the numbers of the states with this key
pub record AreIndexed (states : List StateFields) (keys : List ℕ) (groups : List (List Numbers)) : Type 0 where
  pub effects : All (λ s. AreEffects s.effects) states
  pub as_many : length groups ≡ length keys
  pub grouped : (key : ℕ) → group_at keys groups key ≡ numbers_with key states
