-- The greatest value over all lists of actions of a length.
use Rattle.std.proofs.Common.{ℕ, zero, suc, List, [], ◌∷◌, Option, Some, None, true, ◌≡◌, ◌≤◌, ◌<◌, ◌⊎◌, inl, inr, ◌++◌, ◌∙◌, max, length, get_or, refl, ap, sym, subst, arith}
use Rattle.action_table.specs.declared.action.Action.{Action}
use Rattle.action_table.specs.declared.action.Action.TheVariants.{BasicSynthesis}
use Rattle.action_table.specs.Table.{number_of, all_actions}
use Rattle.action_table.proofs.Names.{get_or-number_of, number_below}
use Rattle.relaxed_moves.specs.Optimum.{option_le, option_max, is_enough, greatest_each, greatest}
use Rattle.plain_lemmas.proofs.Tests.{le_to, le_more}

pub option_le-refl : (a : Option ℕ) → option_le a a
option_le-refl None = tt
option_le-refl (Some a) = omega arith

pub option_le-trans : (a b c : Option ℕ) → option_le a b → option_le b c → option_le a c
option_le-trans None b c h k = tt
option_le-trans (Some a) None c h k = absurd h
option_le-trans (Some a) (Some b) None h k = absurd k
option_le-trans (Some a) (Some b) (Some c) h k = omega arith

pub option_le-antisym : (a b : Option ℕ) → option_le a b → option_le b a → a ≡ b
option_le-antisym None None h k = refl
option_le-antisym None (Some b) h k = absurd k
option_le-antisym (Some a) None h k = absurd h
option_le-antisym (Some a) (Some b) h k = let e : a ≡ b = omega arith in ap (λ n. Some n) e

pub option_max-left : (a b : Option ℕ) → option_le a (option_max a b)
option_max-left None b = tt
option_max-left (Some a) None = omega arith
option_max-left (Some a) (Some b) = omega arith

pub option_max-right : (a b : Option ℕ) → option_le b (option_max a b)
option_max-right None b = option_le-refl b
option_max-right (Some a) None = tt
option_max-right (Some a) (Some b) = omega arith

pub option_max-least : (a b c : Option ℕ) → option_le a c → option_le b c → option_le (option_max a b) c
option_max-least None b c h k = k
option_max-least (Some a) None c h k = h
option_max-least (Some a) (Some b) None h k = h
option_max-least (Some a) (Some b) (Some c) h k = omega arith

-- what has no less than one that is enough is enough too
pub enough-more : (target : ℕ) (o o' : Option ℕ) → option_le o o' → is_enough target o ≡ true → is_enough target o' ≡ true
enough-more target None o' le h = absurd (cc)
enough-more target (Some a) None le h = absurd le
enough-more target (Some a) (Some b) le h = le_more target a b h le

pub enough-some : (target most : ℕ) (o : Option ℕ) → target ≤ most → option_le (Some most) o → is_enough target o ≡ true
enough-some target most o h le = enough-more target (Some most) o le (le_to target most h)

-- one of the two is the greater
pub option_max-either : (a b : Option ℕ) (v : ℕ) → option_max a b ≡ Some v → (a ≡ Some v) ⊎ (b ≡ Some v)
option_max-either None b v e = inr e
option_max-either (Some a) None v e = inl e
option_max-either (Some a) (Some b) v e = grind arith

each-at : (f : Action → Option ℕ) (xs : List Action) (i : ℕ) (d : Action) → i < length xs → option_le (f (get_or xs i d)) (greatest_each f xs)
each-at f [] i d h = absurd (omega arith)
each-at f (a ∷ xs) zero d h = option_max-left (f a) (greatest_each f xs)
each-at f (a ∷ xs) (suc i) d h =
    option_le-trans _ _ _ (each-at f xs i d (omega arith)) (option_max-right (f a) (greatest_each f xs))

pub greatest_each-upper : (f : Action → Option ℕ) (a : Action) → option_le (f a) (greatest_each f all_actions)
greatest_each-upper f a =
    subst (λ b. option_le (f b) (greatest_each f all_actions)) (get_or-number_of a)
    (each-at f all_actions (number_of a) BasicSynthesis (number_below a))

pub greatest_each-least : (f : Action → Option ℕ) (xs : List Action) (r : Option ℕ) → ((a : Action) → option_le (f a) r) → option_le (greatest_each f xs) r
greatest_each-least f [] r h = tt
greatest_each-least f (a ∷ xs) r h = option_max-least (f a) (greatest_each f xs) r (h a) (greatest_each-least f xs r h)

pub greatest_each-attained : (f : Action → Option ℕ) (xs : List Action) (v : ℕ) → greatest_each f xs ≡ Some v → (a : Action) × (f a ≡ Some v)
greatest_each-attained f [] v e = cc
greatest_each-attained f (a ∷ xs) v e = elim (option_max-either (f a) (greatest_each f xs) v e) [
  | inl h ↦ (a, h)
  | inr h ↦ greatest_each-attained f xs v h
]

pub greatest-upper : (n : ℕ) (f : List Action → Option ℕ) (m : List Action) → length m ≤ n → option_le (f m) (greatest f n)
unfolding greatest
greatest-upper zero f [] h = option_le-refl (f [])
greatest-upper zero f (a ∷ m) h = absurd (omega arith)
greatest-upper (suc n) f [] h = option_max-left (f []) _
greatest-upper (suc n) f (a ∷ m) h =
    option_le-trans _ _ _ (greatest-upper n (λ rest. f (a ∷ rest)) m (omega arith))
    (option_le-trans _ _ _ (greatest_each-upper (λ b. greatest (λ rest. f (b ∷ rest)) n) a)
    (option_max-right (f []) (greatest_each (λ b. greatest (λ rest. f (b ∷ rest)) n) all_actions)))

pub greatest-least : (n : ℕ) (f : List Action → Option ℕ) (r : Option ℕ) → ((m : List Action) → option_le (f m) r) → option_le (greatest f n) r
unfolding greatest
greatest-least zero f r h = h []
greatest-least (suc n) f r h =
    option_max-least (f []) _ r (h [])
    (greatest_each-least (λ b. greatest (λ rest. f (b ∷ rest)) n) all_actions r (λ a. greatest-least n (λ rest. f (a ∷ rest)) r (λ m. h (a ∷ m))))

pub greatest-attained : (n : ℕ) (f : List Action → Option ℕ) (v : ℕ) → greatest f n ≡ Some v → (m : List Action) × (f m ≡ Some v)
unfolding greatest
greatest-attained zero f v e = ([], e)
greatest-attained (suc n) f v e = elim (option_max-either (f []) (greatest_each (λ b. greatest (λ rest. f (b ∷ rest)) n) all_actions) v e) [
  | inl h ↦ ([], h)
  | inr h ↦
      let at = greatest_each-attained (λ b. greatest (λ rest. f (b ∷ rest)) n) all_actions v h in
      let found = greatest-attained n (λ rest. f (at.0 ∷ rest)) v at.1 in
      (at.0 ∷ found.0, found.1)
]

-- the greatest over a list, element by element
pub option_max-assoc : (a b c : Option ℕ) → option_max (option_max a b) c ≡ option_max a (option_max b c)
option_max-assoc None b c = refl
option_max-assoc (Some a) None c = refl
option_max-assoc (Some a) (Some b) None = refl
option_max-assoc (Some a) (Some b) (Some c) = let e : max (max a b) c ≡ max a (max b c) = omega arith in ap (λ n. Some n) e

pub option_max-none : (a : Option ℕ) → option_max a None ≡ a
option_max-none None = refl
option_max-none (Some a) = refl

pub greatest_each-append : (f : Action → Option ℕ) (xs ys : List Action) → greatest_each f (xs ++ ys) ≡ option_max (greatest_each f xs) (greatest_each f ys)
greatest_each-append f [] ys = refl
greatest_each-append f (a ∷ xs) ys =
    ap (λ o. option_max (f a) o) (greatest_each-append f xs ys) ∙ sym (option_max-assoc (f a) (greatest_each f xs) (greatest_each f ys))
