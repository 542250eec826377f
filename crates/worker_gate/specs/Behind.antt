-- What a work may ask that is called behind a gate.
use Rattle.std.specs.Prelude.{◌≡◌, ℕ, ◌<◌, List, length, slice_index_or}
use denote.Ref.{MutBor}
use denote.Param.Members.{Shared}

module _ {F T : Type 0} (g : Shared F (ℕ × (MutBor T × Unit {0})) ((Unit {0}) × (MutBor T × Unit {0}))) (f : F) where
  -- f may be called at each place of xs that has passed
  abbrev pub AcceptsBehind : (ℕ → Type 0) → List T → Type 0
  AcceptsBehind passed xs = (i : ℕ) (p : MutBor T) → i < length xs → p.now ≡ slice_index_or xs i p.now → passed i → g.pre f (i, (p, tt))
