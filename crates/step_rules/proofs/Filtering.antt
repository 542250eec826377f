-- A filter over a list, one element further.
use Rattle.std.proofs.Common.{◌≡◌, ◌<◌, ◌∙◌, ◌+◌, ◌++◌, ◌∷◌, [], ℕ, Bool, true, false, List, take, filter, get_or, length, ap, sym, refl, cond}
use Rattle.std.proofs.lemmas.List.{append-nil}
use Rattle.std.proofs.lemmas.List.Elements.{filter_more}

-- the next element passes the test, and is added
pub keep_next : {X : Type 0} (p : X → Bool) (xs : List X) (i : ℕ) (d : X) (before : List X) → i < length xs →
    before ≡ filter p (take i xs) → p (get_or xs i d) ≡ true → before ++ get_or xs i d ∷ [] ≡ filter p (take (i + 1) xs)
keep_next p xs i d before below found passes = rw (filter_more p xs i d below, passes, found) refl

-- the next element fails the test, and is left out
pub skip_next : {X : Type 0} (p : X → Bool) (xs : List X) (i : ℕ) (d : X) (before : List X) → i < length xs →
    before ≡ filter p (take i xs) → p (get_or xs i d) ≡ false → before ≡ filter p (take (i + 1) xs)
skip_next p xs i d before below found fails = rw (filter_more p xs i d below, fails, found) (sym (append-nil _))
