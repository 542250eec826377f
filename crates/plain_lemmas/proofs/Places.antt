-- Elements of lists, by place and by recursion.
use Rattle.std.proofs.Common.{◌≡◌, ◌∙◌, ℕ, zero, suc, ◌+◌, ◌<◌, ◌⊎◌, inl, inr, List, [], ◌∷◌, length, get_or, take, All, Contains, slice_get, Some, arith, refl, sym, subst}
use Rattle.std.proofs.lemmas.List.{take_more}
use Rattle.plain_lemmas.proofs.Lists.{Among, Among-append_cases, Among-append_left, Among-append_right}

pub Among-get_or : {X : Type 0} (xs : List X) (i : ℕ) (d : X) → i < length xs → Among (get_or xs i d) xs
Among-get_or [] i d h = absurd (omega (arith, h))
Among-get_or (x ∷ xs) zero d h = inl refl
Among-get_or (x ∷ xs) (suc i) d h = inr (Among-get_or xs i d (omega (arith, h)))

pub Contains-Among : {X : Type 0} (xs : List X) (x : X) → Contains xs x → Among x xs
Contains-Among xs x h = subst (λ y. Among y xs) h.2 (Among-get_or xs h.0 x h.1)

pub Among-Contains : {X : Type 0} (xs : List X) (x : X) → Among x xs → Contains xs x
Among-Contains [] x h = absurd h
Among-Contains (y ∷ xs) x (inl e) = (0, omega arith, e)
Among-Contains (y ∷ xs) x (inr h) = let r = Among-Contains xs x h in (suc r.0, omega (arith, r.1), r.2)

-- what is among the first n + 1 is among the first n, or stands at n
pub Among-take_more : {X : Type 0} (xs : List X) (n : ℕ) (x e : X) → n < length xs → x ≡ get_or xs n x → Among e (take (n + 1) xs) → Among e (take n xs) ⊎ (x ≡ e)
Among-take_more xs n x e inside is h =
    elim (Among-append_cases e (take n xs) (get_or xs n x ∷ []) (subst (λ l. Among e l) (take_more xs n x inside) h)) [
      | inl before ↦ inl before
      | inr (inl here) ↦ inr (is ∙ here)
      | inr (inr none) ↦ absurd none
    ]

pub Among-take_before : {X : Type 0} (xs : List X) (n : ℕ) (x e : X) → n < length xs → Among e (take n xs) → Among e (take (n + 1) xs)
Among-take_before xs n x e inside h = subst (λ l. Among e l) (sym (take_more xs n x inside)) (Among-append_left e (take n xs) (get_or xs n x ∷ []) h)

pub Among-take_at : {X : Type 0} (xs : List X) (n : ℕ) (x : X) → n < length xs → x ≡ get_or xs n x → Among x (take (n + 1) xs)
Among-take_at xs n x inside is =
    subst (λ l. Among x l) (sym (take_more xs n x inside)) (Among-append_right x (take n xs) (get_or xs n x ∷ []) (inl (sym is)))

-- an element stands at some place
pub record PlaceOf {X : Type 0} (x : X) (xs : List X) : Type 0 where
  pub place : ℕ
  pub inside : place < length xs
  pub at : (d : X) → get_or xs place d ≡ x

pub Among-place : {X : Type 0} (x : X) (xs : List X) → Among x xs → PlaceOf x xs
Among-place x [] h = absurd h
Among-place x (y ∷ xs) (inl e) = record { place = 0; inside = omega arith; at = λ d. e }
Among-place x (y ∷ xs) (inr h) = let r = Among-place x xs h in record { place = suc r.place; inside = omega (arith, r.inside); at = r.at }

-- and is among the first n where that place is below n
pub place-take : {X : Type 0} (x : X) (xs : List X) (k n : ℕ) → k < n → k < length xs → ((d : X) → get_or xs k d ≡ x) → Among x (take n xs)
place-take x [] k n below inside at = absurd (omega (arith, inside))
place-take x (y ∷ xs) k zero below inside at = absurd (omega (arith, below))
place-take x (y ∷ xs) zero (suc n) below inside at = inl (at x)
place-take x (y ∷ xs) (suc k) (suc n) below inside at = inr (place-take x xs k n (omega (arith, below)) (omega (arith, inside)) at)

pub take-place : {X : Type 0} (x : X) (xs : List X) (n : ℕ) → Among x (take n xs) → (k : ℕ) × (k < n) × (k < length xs) × ((d : X) → get_or xs k d ≡ x)
take-place x [] zero h = absurd h
take-place x [] (suc n) h = absurd h
take-place x (y ∷ xs) zero h = absurd h
take-place x (y ∷ xs) (suc n) (inl e) = (0, omega arith, omega arith, λ d. e)
take-place x (y ∷ xs) (suc n) (inr h) = let r = take-place x xs n h in (suc r.0, omega (arith, r.1), omega (arith, r.2), r.3)

-- what `slice_get` finds is what stands there
pub at_stored : {X : Type 0} (xs : List X) (i : ℕ) (k x : X) → slice_get xs i ≡ Some k → x ≡ k → get_or xs i x ≡ x
at_stored [] i k x h e = absurd (cc h)
at_stored (y ∷ xs) zero k x h e = let same : y ≡ k = cc in same ∙ sym e
at_stored (y ∷ xs) (suc i) k x h e = at_stored xs i k x h e

pub Among-All : {X : Type 0} (P : X → Type 0) (xs : List X) → ((x : X) → Among x xs → P x) → All P xs
Among-All P xs each = λ k d inside. each (get_or xs k d) (Among-get_or xs k d inside)

pub All-Among : {X : Type 0} (P : X → Type 0) (xs : List X) (x : X) → All P xs → Among x xs → P x
All-Among P xs x all here = let at = Among-Contains xs x here in subst P at.2 (all at.0 x at.1)
