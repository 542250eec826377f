-- A printed line is that of one number, or of one macro.
use Rattle.std.proofs.Common.{◌≡◌, ◌∙◌, sym, ℕ, ◌<◌, ◌≤◌, ◌==◌, ◌^◌, Bool, true, false, not, ◌&&◌, List, [], ◌∷◌, ◌++◌, map, drop, refl, ap, arith, codes, if◌then◌else◌}
use Rattle.std.proofs.lemmas.List.{append-nil}
use Rattle.std.specs.List.{list_all, flat_map}
use Rattle.std.specs.Fmt.{digits, decimal}
use Rattle.std.proofs.lemmas.Fmt.{decimal_injective}
use Rattle.action_table.specs.declared.action.Action.{Action}
use Rattle.action_table.specs.declared.action.Action.TheVariants.{BasicSynthesis}
use Rattle.action_table.specs.Table.{number_of}
use Rattle.action_table.proofs.Names.{number_of-injective}
use Rattle.certificate_text.specs.Text.{space, in_front, parts, first_line, best_line}
use Rattle.plain_lemmas.proofs.Tests.{same_number}

small : (n : ℕ) → n ≤ 64 → n < 2 ^ 64
small n h = omega (arith, h)

pub first_line-same : (m n : ℕ) → m ≤ 64 → n ≤ 64 → first_line m ≡ first_line n → m ≡ n
first_line-same m n low high h = decimal_injective m n (small m low) (small n high) (ap (drop 28) h)

-- no byte is the mark
abbrev has_no : ℕ → List ℕ → Bool
has_no mark bytes = list_all (λ byte. not (byte == mark)) bytes

cut-by : (b : Bool) (rest : Bool) (x : ℕ) (word more : List ℕ) (mark : ℕ) → (not b && rest) ≡ true → (rest ≡ true → parts mark (word ++ mark ∷ more) ≡ word ∷ parts mark more) →
    (if b then [] ∷ parts mark (word ++ mark ∷ more) else in_front x (parts mark (word ++ mark ∷ more))) ≡ (x ∷ word) ∷ parts mark more
cut-by true rest x word more mark h k = cc
cut-by false rest x word more mark h k = ap (in_front x) (k h)

at-mark : (b : Bool) (mark : ℕ) (more : List ℕ) → b ≡ true → (if b then [] ∷ parts mark more else in_front mark (parts mark more)) ≡ [] ∷ parts mark more
at-mark true mark more h = refl
at-mark false mark more h = cc

pub parts-word : (mark : ℕ) (word more : List ℕ) → has_no mark word ≡ true → parts mark (word ++ mark ∷ more) ≡ word ∷ parts mark more
parts-word mark [] more h = at-mark (mark == mark) mark more (same_number mark)
parts-word mark (x ∷ word) more h = cut-by (x == mark) (has_no mark word) x word more mark h (parts-word mark word more)

last-by : (b : Bool) (rest : Bool) (x : ℕ) (word : List ℕ) (mark : ℕ) → (not b && rest) ≡ true → (rest ≡ true → parts mark word ≡ word ∷ []) →
    (if b then [] ∷ parts mark word else in_front x (parts mark word)) ≡ (x ∷ word) ∷ []
last-by true rest x word mark h k = cc
last-by false rest x word mark h k = ap (in_front x) (k h)

pub parts-last : (mark : ℕ) (word : List ℕ) → has_no mark word ≡ true → parts mark word ≡ word ∷ []
parts-last mark [] h = refl
parts-last mark (x ∷ word) h = last-by (x == mark) (has_no mark word) x word mark h (parts-last mark word)

no-space : (a : Action) → has_no space (decimal (number_of a)) ≡ true
unfolding digits
no-space BasicSynthesis = refl
no-space _ = refl

small-number : (a : Action) → number_of a < 2 ^ 64
small-number BasicSynthesis = omega arith
small-number _ = omega arith

-- the words of a line of numbers
words : List Action → List ℕ
words m = flat_map (λ action. codes " " ++ decimal (number_of action)) m

numbers : List Action → List (List ℕ)
numbers m = map (λ action. decimal (number_of action)) m

parts-words : (word : List ℕ) (m : List Action) → has_no space word ≡ true → parts space (word ++ words m) ≡ word ∷ numbers m
unfolding words numbers
parts-words word [] h = rw (append-nil word) (parts-last space word h)
parts-words word (a ∷ m) h =
    parts-word space word (decimal (number_of a) ++ words m) h ∙ ap (λ (l : List (List ℕ)). word ∷ l) (parts-words (decimal (number_of a)) m (no-space a))

head-same : (a b : List ℕ) (xs ys : List (List ℕ)) → a ∷ xs ≡ b ∷ ys → (a ≡ b) × (xs ≡ ys)
head-same a b xs ys h = (cc, cc)

numbers-same : (m n : List Action) → numbers m ≡ numbers n → m ≡ n
unfolding numbers
numbers-same [] [] h = refl
numbers-same [] (b ∷ n) h = cc
numbers-same (a ∷ m) [] h = cc
numbers-same (a ∷ m) (b ∷ n) h =
    let both = head-same _ _ _ _ h in
    let first : a ≡ b = number_of-injective a b (decimal_injective (number_of a) (number_of b) (small-number a) (small-number b) both.0) in
    ap (λ (x : Action). x ∷ m) first ∙ ap (λ (l : List Action). b ∷ l) (numbers-same m n both.1)

tail-same : (a : List ℕ) (xs ys : List (List ℕ)) → a ∷ xs ≡ a ∷ ys → xs ≡ ys
tail-same a xs ys h = cc

pub best_line-same : (m n : List Action) → best_line m ≡ best_line n → m ≡ n
unfolding words numbers
best_line-same m n h =
    numbers-same m n (tail-same (codes "best") _ _ (sym (parts-words (codes "best") m refl) ∙ ap (parts space) h ∙ parts-words (codes "best") n refl))
