-- Lists each of whose elements has a property, said by places.
use Rattle.std.proofs.Common.{ℕ, Result, Ok, Err, IfOk, List, [], ◌∷◌, ◌++◌, ◌≡◌, ◌<◌, ◌+◌, ◌-◌, length, get_or, refl, sym, subst, arith, inl, inr, length-append}
use Rattle.std.proofs.lemmas.Bool.{cases_lt}
use Rattle.std.proofs.lemmas.List.{get_or_append_left, get_or-append_right, get_or_push}

abbrev pub Each : {X : Type 0} → (X → Type 0) → List X → Type 0
Each P xs = (k : ℕ) (d : _) → k < length xs → P (get_or xs k d)

pub each_joined : {X : Type 0} (P : X → Type 0) (xs ys : List X) → Each P xs → Each P ys → Each P (xs ++ ys)
each_joined P xs ys front back k d lt = elim (cases_lt k (length xs)) [
  | inl inside ↦ subst P (sym (get_or_append_left xs ys d k inside)) (front k d inside)
  | inr past ↦
      let sum : length (xs ++ ys) ≡ length xs + length ys = length-append xs ys in
      subst P (sym (get_or-append_right xs ys (length xs) k d refl past)) (back (k - length xs) d (omega arith))
]

pub each_pushed : {X : Type 0} (P : X → Type 0) (xs : List X) (x : X) → Each P xs → P x → Each P (xs ++ x ∷ [])
each_pushed P xs x front last k d lt = elim (cases_lt k (length xs)) [
  | inl inside ↦ subst P (sym (get_or_append_left xs (x ∷ []) d k inside)) (front k d inside)
  | inr past ↦
      let sum : length (xs ++ x ∷ []) ≡ length xs + 1 = length-append xs (x ∷ []) in
      let here : length xs ≡ k = omega arith in
      subst P (sym (get_or_push xs x d k here)) last
]

-- an element that was taken from the end, and those that are left
pub each_popped : {X : Type 0} (P : X → Type 0) (old new : List X) (x : X) → old ≡ new ++ x ∷ [] → Each P old → Each P new × P x
each_popped P old new x is all = (rest, last)
  where
    sum : length (new ++ x ∷ []) ≡ length new + 1
    sum = length-append new (x ∷ [])

    both : Each P (new ++ x ∷ [])
    both = subst (λ (l : List _). Each P l) is all

    rest : Each P new
    rest k d lt = subst P (get_or_append_left new (x ∷ []) d k lt) (both k d (let s = sum in omega arith))

    last : P x
    last = subst P (get_or_push new x x (length new) refl) (both (length new) x (let s = sum in omega arith))

-- ---- results

pub ok_mapped : {T E : Type 0} (r : Result T E) (P Q : T → Type 0) → ((x : T) → P x → Q x) → IfOk r P → IfOk r Q
ok_mapped (Ok x) P Q f p = f x p
ok_mapped (Err e) P Q f p = p
