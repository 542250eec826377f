-- The vector operations, lane by lane.
use Rattle.std.proofs.Common.{◌≡◌, ℕ, zero, suc, ◌+◌, ◌-◌, ◌<◌, ◌^◌, ◌%◌, Bool, true, false, cond, eqb, ltb, List, [], ◌∷◌, map, length, get_or, replicate, refl, ap, min, max, arith, w16, Fits}
use Rattle.std.proofs.lemmas.Bool.Decides.{nat_tests}
use Rattle.walk_table.specs.Words.{greatest_word}
use lib.Lanes.{zip2, sel_l, top, Each1}

-- a lane of sixteen bits, all set
abbrev pub full : ℕ
full = 65535

abbrev pub ones : Bool → ℕ
ones b = cond b full 0

abbrev pub not16 : ℕ → ℕ
not16 a = full - a

abbrev pub wrap : ℕ → ℕ → ℕ
wrap a b = (a + b) % 2 ^ 16

abbrev pub lt_mask : ℕ → ℕ → ℕ
lt_mask a b = ones (ltb a b)

abbrev pub eq_mask : ℕ → ℕ → ℕ
eq_mask a b = ones (eqb a b)

-- ---- saturating addition: the first, and the smaller of the second and what is left
abbrev pub cut_sums : List ℕ → List ℕ → List ℕ
cut_sums xs ys = zip2 wrap xs (sel_l (map (top 15) (zip2 lt_mask ys (map not16 xs))) ys (map not16 xs))

one_sum : (a b : ℕ) → a < 65536 → b < 65536 → wrap a (cond (top 15 (lt_mask b (not16 a))) b (not16 a)) ≡ min greatest_word (a + b)
one_sum a b A B = go (ltb b (not16 a)) refl
  where
    go : (t : Bool) → ltb b (not16 a) ≡ t → wrap a (cond (top 15 (ones t)) b (not16 a)) ≡ min greatest_word (a + b)
    go true e = grind (arith, nat_tests)
    go false e = grind (arith, nat_tests)

pub sum_at : (xs ys : List ℕ) (i : ℕ) → i < length xs → i < length ys → Each1 (Fits w16) xs → Each1 (Fits w16) ys
    → get_or (cut_sums xs ys) i 0 ≡ min greatest_word (get_or xs i 0 + get_or ys i 0)
sum_at [] ys i p q f g = absurd (omega arith)
sum_at (x ∷ xs) [] i p q f g = absurd (omega arith)
sum_at (x ∷ xs) (y ∷ ys) zero p q f g = one_sum x y f.0.fits g.0.fits
sum_at (x ∷ xs) (y ∷ ys) (suc i) p q f g = sum_at xs ys i (omega arith) (omega arith) f.1 g.1

pub sum_len : (xs ys : List ℕ) → length xs ≡ length ys → length (cut_sums xs ys) ≡ length xs
sum_len [] ys e = refl
sum_len (x ∷ xs) [] e = absurd (omega arith)
sum_len (x ∷ xs) (y ∷ ys) e = ap suc (sum_len xs ys (omega arith))

-- ---- the larger
abbrev pub larger_of : List ℕ → List ℕ → List ℕ
larger_of xs ys = sel_l (map (top 15) (zip2 lt_mask xs ys)) ys xs

one_larger : (a b : ℕ) → cond (top 15 (lt_mask a b)) b a ≡ max a b
one_larger a b = go (ltb a b) refl
  where
    go : (t : Bool) → ltb a b ≡ t → cond (top 15 (ones t)) b a ≡ max a b
    go true e = grind (arith, nat_tests)
    go false e = grind (arith, nat_tests)

pub larger_at : (xs ys : List ℕ) (i : ℕ) → i < length xs → i < length ys → get_or (larger_of xs ys) i 0 ≡ max (get_or xs i 0) (get_or ys i 0)
larger_at [] ys i p q = absurd (omega arith)
larger_at (x ∷ xs) [] i p q = absurd (omega arith)
larger_at (x ∷ xs) (y ∷ ys) zero p q = one_larger x y
larger_at (x ∷ xs) (y ∷ ys) (suc i) p q = larger_at xs ys i (omega arith) (omega arith)

pub larger_len : (xs ys : List ℕ) → length xs ≡ length ys → length (larger_of xs ys) ≡ length xs
larger_len [] ys e = refl
larger_len (x ∷ xs) [] e = absurd (omega arith)
larger_len (x ∷ xs) (y ∷ ys) e = ap suc (larger_len xs ys (omega arith))

-- ---- 0 where the other is 0
abbrev pub some_of : List ℕ → List ℕ → List ℕ → List ℕ
some_of xs zs ys = sel_l (map (top 15) (zip2 eq_mask xs zs)) zs ys

one_some : (a b : ℕ) → cond (top 15 (eq_mask a 0)) 0 b ≡ cond (eqb a 0) 0 b
one_some a b = go (eqb a 0)
  where
    go : (t : Bool) → cond (top 15 (ones t)) 0 b ≡ cond t 0 b
    go true = refl
    go false = refl

pub some_at : (n : ℕ) (xs ys : List ℕ) (i : ℕ) → length xs ≡ n → length ys ≡ n → i < n → get_or (some_of xs (replicate n 0) ys) i 0 ≡ cond (eqb (get_or xs i 0) 0) 0 (get_or ys i 0)
some_at zero xs ys i e f p = absurd (omega arith)
some_at (suc n) [] ys i e f p = absurd (omega arith)
some_at (suc n) (x ∷ xs) [] i e f p = absurd (omega arith)
some_at (suc n) (x ∷ xs) (y ∷ ys) zero e f p = one_some x y
some_at (suc n) (x ∷ xs) (y ∷ ys) (suc i) e f p = some_at n xs ys i (omega arith) (omega arith) (omega arith)

pub some_len : (n : ℕ) (xs ys : List ℕ) → length xs ≡ n → length ys ≡ n → length (some_of xs (replicate n 0) ys) ≡ n
some_len zero [] ys e f = refl
some_len zero (x ∷ xs) ys e f = absurd (omega arith)
some_len (suc n) [] ys e f = absurd (omega arith)
some_len (suc n) (x ∷ xs) [] e f = absurd (omega arith)
some_len (suc n) (x ∷ xs) (y ∷ ys) e f = ap suc (some_len n xs ys (omega arith) (omega arith))
