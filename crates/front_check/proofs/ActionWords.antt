-- The macro that a line names.
use Rattle.std.proofs.Common.{◌≡◌, ◌∙◌, sym, ℕ, suc, ◌+◌, ◌<◌, ◌≤◌, ◌==◌, Bool, true, false, not, nat_lt, ◌&&◌, cond, List, [], ◌∷◌, ◌++◌, append_assoc, length, take, drop, Option, Some, None, refl, ap, arith, MatchOption, IsTrue, ◌↔◌, inl, inr}
use Rattle.plain_lemmas.proofs.Tests.{clash, not_lt, below_or_at}
use Rattle.std.proofs.Math.Seq.{take-append_seam, drop-append_seam}
use Rattle.std.proofs.lemmas.List.{append-nil, drop-drop, take_rest}
use Rattle.std.specs.Fmt.{digits, decimal}
use Rattle.std.specs.List.{list_all, flat_map, prefix_len, position}
use Rattle.std.specs.Str.Parse.{digits_value}
use Rattle.action_table.specs.declared.action.Action.{Action}
use Rattle.action_table.specs.declared.action.Action.TheVariants.{BasicSynthesis}
use Rattle.action_table.specs.Table.{number_of}
use Rattle.action_table.proofs.Names.{number_of-injective, number_below}
use Rattle.certificate_text.specs.Text.{space, is_number, first_line, best_line}
use Rattle.certificate_text.specs.Reading.{IsReadNumber}
use Rattle.certificate_text.proofs.WordByWord.{from_on}
use Rattle.front_check.specs.Named.{action_word, Names, NamesNone}
use Rattle.front_check.proofs.FromLevel.{rest-is}
use Rattle.certificate_text.proofs.Parts.{no-position}

-- the words of a macro
abbrev spelled : List Action → List ℕ
spelled m = flat_map action_word m

abbrev before : List ℕ → ℕ
before bytes = prefix_len (λ byte. not (byte == space)) bytes

no-space : (a : Action) → list_all (λ byte. not (byte == space)) (decimal (number_of a)) ≡ true
unfolding digits
no-space BasicSynthesis = refl
no-space _ = refl

is-number : (a : Action) → is_number (decimal (number_of a)) ≡ true
unfolding digits
is-number BasicSynthesis = refl
is-number _ = refl

is-value : (a : Action) → digits_value 10 (decimal (number_of a)) ≡ number_of a
unfolding digits
is-value BasicSynthesis = refl
is-value _ = refl

pub no-number : (word : List ℕ) (a : Action) → is_number word ≡ false → word ≡ decimal (number_of a) → ⊥
no-number word a none is = clash (ap (λ (l : List ℕ). is_number l) is ∙ is-number a) none

pub only-number : (word : List ℕ) (a : Action) (n : ℕ) → IsReadNumber word n → word ≡ decimal (number_of a) → n ≡ number_of a
only-number word a n read is =
    let same : digits_value 10 word ≡ number_of a = ap (λ (l : List ℕ). digits_value 10 l) is ∙ is-value a in
    omega (arith, read.value, same, number_below a)

pub high-number : (word : List ℕ) (a : Action) (n : ℕ) → IsReadNumber word n → 26 ≤ n → word ≡ decimal (number_of a) → ⊥
high-number word a n read high is = absurd (omega (arith, only-number word a n read is, number_below a, high))

pub same-action : (word : List ℕ) (a found : Action) (n : ℕ) → IsReadNumber word n → number_of found ≡ n → word ≡ decimal (number_of a) → a ≡ found
same-action word a found n read named is = number_of-injective a found (sym (only-number word a n read is) ∙ sym named)

-- the action that was found by its number
pub found-action : (word : List ℕ) (n : ℕ) (found : Option Action) → IsReadNumber word n → n < 26 → MatchOption found (26 ≤ n) (λ a. number_of a ≡ n) →
    MatchOption found ((a : Action) → word ≡ decimal (number_of a) → ⊥) (λ b. (a : Action) → word ≡ decimal (number_of a) → a ≡ b)
found-action word n None read low none = absurd (omega (arith, low, none))
found-action word n (Some b) read low named = λ a is. same-action word a b n read named is

-- how far the first space is
by-word : (b rest : Bool) (n l : ℕ) → (not b && rest) ≡ true → (rest ≡ true → n ≡ l) → cond (not b) (1 + n) 0 ≡ suc l
by-word true rest n l h k = cc
by-word false rest n l h k = omega (arith, k h)

before-word : (word more : List ℕ) → list_all (λ byte. not (byte == space)) word ≡ true → before (word ++ space ∷ more) ≡ length word
before-word [] more h = refl
before-word (x ∷ word) more h = by-word (x == space) (list_all (λ byte. not (byte == space)) word) (before (word ++ space ∷ more)) (length word) h (before-word word more)

before-last : (word : List ℕ) → list_all (λ byte. not (byte == space)) word ≡ true → before word ≡ length word
before-last [] h = refl
before-last (x ∷ word) h = by-word (x == space) (list_all (λ byte. not (byte == space)) word) (before word) (length word) h (before-last word)

before-spelled : (a : Action) (m : List Action) → before (decimal (number_of a) ++ spelled m) ≡ length (decimal (number_of a))
before-spelled a [] = ap (λ (l : List ℕ). before l) (append-nil (decimal (number_of a))) ∙ before-last (decimal (number_of a)) (no-space a)
before-spelled a (b ∷ m) = before-word (decimal (number_of a)) (decimal (number_of b) ++ spelled m) (no-space a)

some-place : (b : Bool) (n place : ℕ) → cond b (Some n) None ≡ Some place → n ≡ place
some-place true n place h = cc
some-place false n place h = cc

pub end-some : (bytes : List ℕ) (place : ℕ) → position (λ byte. byte == space) bytes ≡ Some place → place ≡ before bytes
end-some bytes place h = sym (some-place (nat_lt (before bytes) (length bytes)) (before bytes) place h)

before-le : (b : Bool) (n l : ℕ) → n ≤ l → cond (not b) (1 + n) 0 ≤ suc l
before-le true n l h = omega arith
before-le false n l h = omega (arith, h)

before-most : (bytes : List ℕ) → before bytes ≤ length bytes
before-most [] = omega arith
before-most (x ∷ bytes) = before-le (x == space) (before bytes) (length bytes) (before-most bytes)

pub end-none : (bytes : List ℕ) → position (λ byte. byte == space) bytes ≡ None → length bytes ≡ before bytes
end-none bytes h = omega (arith, before-most bytes, not_lt (before bytes) (length bytes) (no-position (nat_lt (before bytes) (length bytes)) (before bytes) h))

-- each macro that the line names begins with these actions, and the rest of the line is its rest
pub record Left (line : List ℕ) (actions : List Action) (from : ℕ) : Type 0 where
  pub left : (m : List Action) → line ≡ best_line m → (rest : List Action) × ((m ≡ actions ++ rest) × (from_on from line ≡ spelled rest))

pub left-start : (line : List ℕ) → Left line [] 4
left-start line = record { left = λ m is. (m, (refl, take_rest line 4 ∙ ap (drop 4) is)) }

record Step (line : List ℕ) (actions : List Action) (from : ℕ) (m : List Action) : Type 0 where
  pub action : Action
  pub rest : List Action
  pub is : m ≡ actions ++ action ∷ rest
  pub word : from_on (from + 1) line ≡ decimal (number_of action) ++ spelled rest

step-by : (line : List ℕ) (actions : List Action) (from : ℕ) (m rest : List Action) → from < length line → m ≡ actions ++ rest → from_on from line ≡ spelled rest → Step line actions from m
step-by line actions from m [] inside is rest = absurd (omega (arith, inside, rest-is line from, ap (λ (l : List ℕ). length l) rest))
step-by line actions from m (a ∷ r) inside is rest = record {
  action = a;
  rest = r;
  is = is;
  word = take_rest line (from + 1) ∙ sym (drop-drop 1 from line) ∙ ap (drop 1) (sym (take_rest line from) ∙ rest);
}

step : (line : List ℕ) (actions : List Action) (from : ℕ) (m : List Action) → Left line actions from → from < length line → line ≡ best_line m → Step line actions from m
step line actions from m left inside is = let l = left.left m is in step-by line actions from m l.0 inside l.1.0 l.1.1

first-word : (bytes : List ℕ) (end : ℕ) (a : Action) (m : List Action) → end ≡ before bytes → bytes ≡ decimal (number_of a) ++ spelled m → end ≡ length (decimal (number_of a))
first-word bytes end a m is word = is ∙ ap (λ (l : List ℕ). before l) word ∙ before-spelled a m

word-is : (bytes : List ℕ) (end : ℕ) (a : Action) (m : List Action) → end ≡ before bytes → bytes ≡ decimal (number_of a) ++ spelled m → take end bytes ≡ decimal (number_of a)
word-is bytes end a m is word =
    ap (λ (n : ℕ). take n bytes) (first-word bytes end a m is word) ∙ ap (take (length (decimal (number_of a)))) word ∙ take-append_seam (decimal (number_of a)) (spelled m)

rest-of : (bytes : List ℕ) (end : ℕ) (a : Action) (m : List Action) → end ≡ before bytes → bytes ≡ decimal (number_of a) ++ spelled m → drop end bytes ≡ spelled m
rest-of bytes end a m is word =
    ap (λ (n : ℕ). drop n bytes) (first-word bytes end a m is word) ∙ ap (drop (length (decimal (number_of a)))) word ∙ drop-append_seam (decimal (number_of a)) (spelled m)

pub left-next : (line : List ℕ) (actions : List Action) (from end : ℕ) (a : Action) → Left line actions from → from < length line → end ≡ before (from_on (from + 1) line) →
    ((b : Action) → take end (from_on (from + 1) line) ≡ decimal (number_of b) → b ≡ a) → Left line (actions ++ a ∷ []) (from + (1 + end))
left-next line actions from end a left inside is named = record {
  left = λ m e.
      let s = step line actions from m left inside e in
      let same : s.action ≡ a = named s.action (word-is (from_on (from + 1) line) end s.action s.rest is s.word) in
      let group : actions ++ s.action ∷ s.rest ≡ (actions ++ a ∷ []) ++ s.rest = ap (λ (b : Action). actions ++ b ∷ s.rest) same ∙ sym (append_assoc actions (a ∷ []) s.rest) in
      let sum : from + 1 + end ≡ from + (1 + end) = omega arith in
      let later : from_on (from + (1 + end)) line ≡ drop end (from_on (from + 1) line) =
      take_rest line (from + (1 + end)) ∙ ap (λ (n : ℕ). drop n line) (sym sum) ∙ sym (drop-drop end (from + 1) line) ∙ ap (drop end) (sym (take_rest line (from + 1))) in
      (s.rest, (s.is ∙ group, later ∙ rest-of (from_on (from + 1) line) end s.action s.rest is s.word));
}

pub left-none : (line : List ℕ) (actions : List Action) (from end : ℕ) → Left line actions from → from < length line → end ≡ before (from_on (from + 1) line) →
    ((b : Action) → take end (from_on (from + 1) line) ≡ decimal (number_of b) → ⊥) → NamesNone line
left-none line actions from end left inside is none m e =
    let s = step line actions from m left inside e in
    none s.action (word-is (from_on (from + 1) line) end s.action s.rest is s.word)

done-by : (line : List ℕ) (actions : List Action) (from : ℕ) (m rest : List Action) → length line ≤ from → m ≡ actions ++ rest → from_on from line ≡ spelled rest → m ≡ actions
done-by line actions from m [] all is rest = is ∙ append-nil actions
done-by line actions from m (a ∷ r) all is rest = absurd (omega (arith, all, rest-is line from, ap (λ (l : List ℕ). length l) rest))

pub left-done : (line : List ℕ) (actions : List Action) (from : ℕ) → Left line actions from → length line ≤ from → Names line actions
left-done line actions from left all m e = let l = left.left m e in done-by line actions from m l.0 all l.1.0 l.1.1

-- the line is not the one that is printed
pub other-printed : (line said : List ℕ) (actions : List Action) → Names line actions → said ≡ best_line actions → (line ≡ said → ⊥) → NamesNone line
other-printed line said actions names says other m is = other (is ∙ ap best_line (names m is) ∙ sym says)

-- one grain more that line 1 doesn't name
pub more-grains : (line : List ℕ) (k : ℕ) (named : Bool) → ((n : ℕ) → 1 ≤ n → n < k → line ≡ first_line n → ⊥) → IsTrue named ↔ (line ≡ first_line k) → named ≡ false →
    (n : ℕ) → 1 ≤ n → n < k + 1 → line ≡ first_line n → ⊥
more-grains line k named before here wrong n low high is = elim (below_or_at n k high) [
  | inl less ↦ before n low less is
  | inr same ↦ clash (here.1 (is ∙ ap first_line same)) wrong
]
