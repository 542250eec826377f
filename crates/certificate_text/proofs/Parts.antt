-- What the parts are, by the first place of the mark.
use Rattle.std.proofs.Common.{◌≡◌, ◌∙◌, ℕ, suc, ◌+◌, ◌<◌, ◌≤◌, ◌==◌, not, nat_lt, cond, Bool, true, false, List, [], ◌∷◌, Some, None, length, take, drop, refl, ap, arith, subst, if◌then◌else◌}
use Rattle.std.specs.List.{position, prefix_len}
use Rattle.certificate_text.specs.Text.{in_front, parts}
use Rattle.plain_lemmas.proofs.Tests.{lt_from, not_lt}

-- how many bytes come before the first mark
abbrev before : ℕ → List ℕ → ℕ
before mark bytes = prefix_len (λ byte. not (byte == mark)) bytes

take-one : (n x : ℕ) (xs : List ℕ) → take (1 + n) (x ∷ xs) ≡ x ∷ take n xs
take-one n x xs = let e : 1 + n ≡ suc n = omega arith in rw e refl

drop-one : (n x : ℕ) (xs : List ℕ) → drop (1 + n + 1) (x ∷ xs) ≡ drop (n + 1) xs
drop-one n x xs = let e : 1 + n + 1 ≡ suc (n + 1) = omega arith in rw e refl

cut-by : (b : Bool) (n x : ℕ) (xs : List ℕ) (mark : ℕ) → (n < length xs → parts mark xs ≡ take n xs ∷ parts mark (drop (n + 1) xs)) → cond (not b) (1 + n) 0 < length (x ∷ xs) →
    (if b then [] ∷ parts mark xs else in_front x (parts mark xs)) ≡ take (cond (not b) (1 + n) 0) (x ∷ xs) ∷ parts mark (drop (cond (not b) (1 + n) 0 + 1) (x ∷ xs))
cut-by true n x xs mark rest h = refl
cut-by false n x xs mark rest h =
    let e : parts mark xs ≡ take n xs ∷ parts mark (drop (n + 1) xs) = rest (omega (arith, h)) in
    ap (in_front x) e ∙ rw (take-one n x xs, drop-one n x xs) refl

cut-before : (mark : ℕ) (bytes : List ℕ) → before mark bytes < length bytes → parts mark bytes ≡ take (before mark bytes) bytes ∷ parts mark (drop (before mark bytes + 1) bytes)
cut-before mark [] h = absurd (omega (arith, h))
cut-before mark (x ∷ xs) h = cut-by (x == mark) (before mark xs) x xs mark (cut-before mark xs) h

whole-by : (b : Bool) (n x : ℕ) (xs : List ℕ) (mark : ℕ) → (length xs ≤ n → parts mark xs ≡ xs ∷ []) → length (x ∷ xs) ≤ cond (not b) (1 + n) 0 →
    (if b then [] ∷ parts mark xs else in_front x (parts mark xs)) ≡ (x ∷ xs) ∷ []
whole-by true n x xs mark rest h = absurd (omega (arith, h))
whole-by false n x xs mark rest h = ap (in_front x) (rest (omega (arith, h)))

whole-before : (mark : ℕ) (bytes : List ℕ) → length bytes ≤ before mark bytes → parts mark bytes ≡ bytes ∷ []
whole-before mark [] h = refl
whole-before mark (x ∷ xs) h = whole-by (x == mark) (before mark xs) x xs mark (whole-before mark xs) h

position-by : (b : Bool) (n place : ℕ) → cond b (Some n) None ≡ Some place → (b ≡ true) × (n ≡ place)
position-by true n place h = (refl, cc)
position-by false n place h = cc

pub no-position : (b : Bool) (n : ℕ) → cond b (Some n) None ≡ None → b ≡ false
no-position true n h = cc
no-position false n h = refl

-- the first part ends where the first mark stands
pub parts-at : (mark : ℕ) (bytes : List ℕ) (place : ℕ) → position (λ byte. byte == mark) bytes ≡ Some place → parts mark bytes ≡ take place bytes ∷ parts mark (drop (place + 1) bytes)
parts-at mark bytes place h =
    let found = position-by (nat_lt (before mark bytes) (length bytes)) (before mark bytes) place h in
    subst (λ (n : ℕ). parts mark bytes ≡ take n bytes ∷ parts mark (drop (n + 1) bytes)) found.1 (cut-before mark bytes (lt_from _ _ found.0))

-- and is all where there is none
pub parts-whole : (mark : ℕ) (bytes : List ℕ) → position (λ byte. byte == mark) bytes ≡ None → parts mark bytes ≡ bytes ∷ []
parts-whole mark bytes h = whole-before mark bytes (not_lt _ _ (no-position (nat_lt (before mark bytes) (length bytes)) (before mark bytes) h))

pub position-less : (mark : ℕ) (bytes : List ℕ) (place : ℕ) → position (λ byte. byte == mark) bytes ≡ Some place → place < length bytes
position-less mark bytes place h =
    let found = position-by (nat_lt (before mark bytes) (length bytes)) (before mark bytes) place h in
    omega (arith, found.1, lt_from _ _ found.0)
