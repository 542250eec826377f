-- What is seen is among the sights as a test, and numbers in a list.
use Rattle.std.proofs.Common.{ℕ, Bool, true, false, List, [], ◌∷◌, ◌++◌, ◌≡◌, ◌≤◌, ◌<◌, ◌+◌, nat_lt, get_or, length, length-append, refl, ◌∙◌, ap, sym, subst, arith, if◌then◌else◌, inl, inr}
use Rattle.std.proofs.lemmas.Bool.{cases_lt}
use Rattle.std.proofs.lemmas.List.{get_or_append_left, get_or_push}
use Rattle.plain_lemmas.proofs.Tests.{and_both, and_by, lt_to, lt_from, bit_small, bool_cases}
use Rattle.relaxed_moves.specs.Places.{bit}
use Rattle.priced_moves.specs.Moves.{SeenFields, AreSeen}
use Rattle.priced_graph.specs.Sights.{SightsFields, IsSeenIn, IsNumber, all_sights, is_seen_in, node_count, number_of, seen_at}
use Rattle.priced_graph.specs.Numbers.{AreListed, AreNumbers, number_or_none}
use Rattle.priced_graph.specs.declared.numbers.TheConstants.{NO_SIGHT}
use Rattle.priced_graph.proofs.Digits.{number-below, seen-number}

pub seen-yes : (c : SightsFields) (x : SeenFields) → IsSeenIn c x → is_seen_in c x ≡ true
seen-yes c x h =
    and_by _ _ (lt_to _ _ h.iq) (and_by _ _ (lt_to _ _ h.innovation) (and_by _ _ (lt_to _ _ h.veneration)
    (and_by _ _ (lt_to _ _ h.strides) (and_by _ _ (lt_to _ _ h.muscle) (lt_to _ _ h.begun)))))

pub seen-by : (c : SightsFields) (x : SeenFields) → is_seen_in c x ≡ true → IsSeenIn c x
seen-by c x h =
    let a = and_both (nat_lt x.iq c.iq) _ h in
    let b = and_both (nat_lt x.innovation c.innovation) _ a.1 in
    let d = and_both (nat_lt x.veneration c.veneration) _ b.1 in
    let e = and_both (nat_lt (bit x.strides) c.strides) _ d.1 in
    let f = and_both (nat_lt (bit x.muscle) c.muscle) (nat_lt (bit x.begun) c.begun) e.1 in
    record {
      iq = lt_from _ _ a.0;
      innovation = lt_from _ _ b.0;
      veneration = lt_from _ _ d.0;
      strides = lt_from _ _ e.0;
      muscle = lt_from _ _ f.0;
      begun = lt_from _ _ f.1;
    }

-- whatever is seen is among the sights of all crafts
pub seen-all : (x : SeenFields) → AreSeen x → IsSeenIn all_sights x
seen-all x are = record {
  iq = let h = are.iq in omega arith;
  innovation = let h = are.innovation in omega arith;
  veneration = let h = are.veneration in omega arith;
  strides = bit_small x.strides;
  muscle = bit_small x.muscle;
  begun = bit_small x.begun;
}

chosen : (c : Bool) (n m : ℕ) → c ≡ true → n ≡ (if c then n else m)
chosen c n m h = rw h refl

other : (c : Bool) (n m : ℕ) → c ≡ false → m ≡ (if c then n else m)
other c n m h = rw h refl

pub number-of : (c : SightsFields) (x : SeenFields) (n : ℕ) → IsSeenIn c x → n ≡ number_of c x → IsNumber c x n
number-of c x n within is = record {
  within = within;
  value = is;
  below = subst (λ (k : ℕ). k < node_count c) (sym is) (number-below c x within);
  seen = ap (λ (k : ℕ). seen_at c k) is ∙ seen-number c x within;
}

pub number-listed : (c : SightsFields) (x : SeenFields) (n : ℕ) → is_seen_in c x ≡ true → n ≡ number_of c x → n ≡ number_or_none c x
number-listed c x n in_c is = is ∙ chosen (is_seen_in c x) (number_of c x) NO_SIGHT in_c

pub none-listed : (c : SightsFields) (x : SeenFields) → is_seen_in c x ≡ false → NO_SIGHT ≡ number_or_none c x
none-listed c x none = other (is_seen_in c x) (number_of c x) NO_SIGHT none

pub none-before : (c : SightsFields) (numbers : List ℕ) → numbers ≡ [] → AreListed c 0 numbers
none-before c numbers none = record {
  long = ap (λ l. length l) none;
  at = λ place d below. absurd (let x : ⊥ = omega arith in x);
}

pub one-more : (c : SightsFields) (count n : ℕ) (numbers : List ℕ) → n ≡ number_or_none c (seen_at all_sights count) → AreListed c count numbers → AreListed c (count + 1) (numbers ++ n ∷ [])
one-more c count n numbers is listed = record {
  long = let sum = length-append numbers (n ∷ []) in let long = listed.long in omega arith;
  at = λ place d below. elim (cases_lt place count) [
    | inl before ↦ get_or_append_left numbers (n ∷ []) d place (let long = listed.long in omega arith) ∙ listed.at place d before
    | inr after ↦
        let here : length numbers ≡ place = let long = listed.long in omega arith in
        let at : count ≡ place = omega arith in
        get_or_push numbers n d place here ∙ is ∙ ap (λ (k : ℕ). number_or_none c (seen_at all_sights k)) at
  ];
}

-- the number in the list at the place of what is seen
pub found-at : (c : SightsFields) (x : SeenFields) (numbers : List ℕ) (k d : ℕ) → AreNumbers c numbers → IsNumber all_sights x k → get_or numbers k d ≡ number_or_none c x
found-at c x numbers k d are number = are.listed.at k d number.below ∙ ap (λ (y : SeenFields). number_or_none c y) number.seen

number-is : (c : SightsFields) (x : SeenFields) (n : ℕ) → n ≡ number_or_none c x → is_seen_in c x ≡ true → n ≡ number_of c x
number-is c x n is in_c = is ∙ sym (chosen (is_seen_in c x) (number_of c x) NO_SIGHT in_c)

pub found-none : (c : SightsFields) (x : SeenFields) (n : ℕ) → node_count c ≤ NO_SIGHT → n ≡ number_or_none c x → n ≡ NO_SIGHT → is_seen_in c x ≡ false
found-none c x n few is none = elim (bool_cases (is_seen_in c x)) [
  | inl in_c ↦
      let value = number-is c x n is in_c in
      let below = number-below c x (seen-by c x in_c) in
      absurd (let y : ⊥ = omega arith in y)
  | inr out ↦ out
]

pub found-some : (c : SightsFields) (x : SeenFields) (n : ℕ) → n ≡ number_or_none c x → (n ≡ NO_SIGHT → ⊥) → IsNumber c x n
found-some c x n is some = elim (bool_cases (is_seen_in c x)) [
  | inl in_c ↦ number-of c x n (seen-by c x in_c) (number-is c x n is in_c)
  | inr out ↦ absurd (some (is ∙ sym (other (is_seen_in c x) (number_of c x) NO_SIGHT out)))
]
