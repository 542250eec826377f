-- Three columns as one list.
use Rattle.std.proofs.Common.{◌≡◌, ℕ, zero, suc, ◌<◌, ◌≤◌, ◌&&◌, true, false, List, [], ◌∷◌, ◌++◌, length, get_or, Option, Some, None, MatchOption, nat_le, arith, refl, ap, sym, subst}
use Rattle.lane_front.specs.Cover.{NoneCovers, IsFirstCover}
use Rattle.pareto_front.specs.Columns.{Numbers, rows, is_enough, NoneEnough, IsFirstEnough}

abbrev pub row_of : ℕ → ℕ → ℕ → Numbers
row_of cp durability quality = record { cp = cp; durability = durability; quality = quality }

pub rows-append : (a b c : List ℕ) (x y z : ℕ) → length b ≡ length a → length c ≡ length a →
    rows (a ++ x ∷ []) (b ++ y ∷ []) (c ++ z ∷ []) ≡ rows a b c ++ row_of x y z ∷ []
rows-append [] [] [] x y z e f = refl
rows-append [] [] (r ∷ c) x y z e f = absurd (omega (arith, f))
rows-append [] (q ∷ b) c x y z e f = absurd (omega (arith, e))
rows-append (p ∷ a) [] c x y z e f = absurd (omega (arith, e))
rows-append (p ∷ a) (q ∷ b) [] x y z e f = absurd (omega (arith, f))
rows-append (p ∷ a) (q ∷ b) (r ∷ c) x y z e f =
    ap (λ (l : List Numbers). row_of p q r ∷ l) (rows-append a b c x y z (omega (arith, e)) (omega (arith, f)))

pub length-rows : (a b c : List ℕ) → length b ≡ length a → length c ≡ length a → length (rows a b c) ≡ length a
length-rows [] b c e f = refl
length-rows (p ∷ a) [] c e f = absurd (omega (arith, e))
length-rows (p ∷ a) (q ∷ b) [] e f = absurd (omega (arith, f))
length-rows (p ∷ a) (q ∷ b) (r ∷ c) e f = ap suc (length-rows a b c (omega (arith, e)) (omega (arith, f)))

pub rows-at : (a b c : List ℕ) (k : ℕ) (d : Numbers) → length b ≡ length a → length c ≡ length a → k < length a →
    get_or (rows a b c) k d ≡ row_of (get_or a k 0) (get_or b k 0) (get_or c k 0)
rows-at [] b c k d e f h = absurd (omega (arith, h))
rows-at (p ∷ a) [] c k d e f h = absurd (omega (arith, e))
rows-at (p ∷ a) (q ∷ b) [] k d e f h = absurd (omega (arith, f))
rows-at (p ∷ a) (q ∷ b) (r ∷ c) zero d e f h = refl
rows-at (p ∷ a) (q ∷ b) (r ∷ c) (suc k) d e f h = rows-at a b c k d (omega (arith, e)) (omega (arith, f)) (omega (arith, h))

three_le : (x y z a b c : ℕ) → x ≤ a → y ≤ b → z ≤ c → (nat_le x a && nat_le y b && nat_le z c) ≡ true
three_le x y z a b c h i j = grind arith

three_not : (x y z a b c : ℕ) → ((x ≤ a) × (y ≤ b) × (z ≤ c) → ⊥) → (nat_le x a && nat_le y b && nat_le z c) ≡ false
three_not x y z a b c h =
    elim (nat_le x a && nat_le y b && nat_le z c) as (λ t. (nat_le x a && nat_le y b && nat_le z c) ≡ t → t ≡ false) [
      | true ↦ λ e. absurd (h (grind arith, grind arith, grind arith))
      | false ↦ λ e. refl
    ] refl

none_enough : (a b c l : List ℕ) (n : ℕ) → length b ≡ length a → length c ≡ length a → n ≤ length a → NoneCovers a b c l 0 n → NoneEnough l (rows a b c) n
none_enough a b c l n e f within none k d below =
    subst (λ (r : Numbers). is_enough l r ≡ false) (sym (rows-at a b c k d e f (omega (arith, below, within))))
    (three_not _ _ _ _ _ _ (λ h. none k (omega arith) below h))

-- what the lanes find in the columns is the first entry that is enough
pub first_enough : (a b c l : List ℕ) (found : Option ℕ) → length b ≡ length a → length c ≡ length a →
    MatchOption found (NoneCovers a b c l 0 (length a)) (IsFirstCover a b c l) →
    MatchOption found (NoneEnough l (rows a b c) (length (rows a b c))) (IsFirstEnough l (rows a b c))
first_enough a b c l None e f none =
    subst (λ (n : ℕ). NoneEnough l (rows a b c) n) (sym (length-rows a b c e f)) (none_enough a b c l (length a) e f (omega arith) none)
first_enough a b c l (Some k) e f first = record {
  inside = omega (arith, first.0, length-rows a b c e f);
  enough = λ d. subst (λ (r : Numbers). is_enough l r ≡ true) (sym (rows-at a b c k d e f first.0)) (three_le _ _ _ _ _ _ first.1.0 first.1.1 first.1.2);
  first = none_enough a b c l k e f (omega (arith, first.0)) first.2;
}
