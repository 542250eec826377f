-- A certificate has one text at most.
use Rattle.std.proofs.Common.{◌≡◌, ◌∙◌, sym, ℕ, ◌+◌, ◌*◌, ◌<◌, ◌≤◌, ◌==◌, ◌&&◌, ◌||◌, not, nat_lt, Bool, true, false, ◌⊎◌, inl, inr, List, [], ◌∷◌, ◌++◌, length, reverse, slice_index, refl, ap, subst, arith, codes, if◌then◌else◌}
use Rattle.std.specs.Char.{is_ascii_digit, digit_value}
use Rattle.std.specs.List.{list_all}
use Rattle.std.specs.Str.Parse.{digits_value}
use Rattle.std.proofs.lemmas.Grind.{reverse_onto}
use Rattle.std.proofs.lemmas.Int.Digits.{digits_value_push}
use Rattle.std.proofs.lemmas.List.{reverse-reverse}
use Rattle.std.proofs.lemmas.List.Folds.{list_all-append}
use Rattle.std.proofs.lemmas.Str.{digit_value_digit}
use Rattle.plain_lemmas.proofs.Tests.{clash, not_true, and_both, and_by, eq_from, eq_to, le_from, other_number, same_or_other}
use Rattle.certificate_text.specs.declared.verdict.Verdict.{Verdict}
use Rattle.certificate_text.specs.declared.verdict.Verdict.TheVariants.{Complete, Failed, Limited, Late, Dominated, Kept}
use Rattle.certificate_text.specs.Text.{line_end, space, in_front, parts, is_number, IsNumber, first_line, best_line, level_line, Says, AllSay, IsRow, AreRows, AreLevels, Certificate, IsText}

-- the bytes that were cut into parts
abbrev after_first : ℕ → List (List ℕ) → List ℕ
after_first mark [] = []
after_first mark (part ∷ rest) = mark ∷ (part ++ after_first mark rest)

abbrev joined : ℕ → List (List ℕ) → List ℕ
joined mark [] = []
joined mark (part ∷ rest) = part ++ after_first mark rest

join-step : (b : Bool) (mark x : ℕ) (ps : List (List ℕ)) → (b ≡ true → x ≡ mark) → 0 < length ps → joined mark (if b then [] ∷ ps else in_front x ps) ≡ x ∷ joined mark ps
join-step b mark x [] is some = absurd (omega (arith, some))
join-step true mark x (p ∷ ps) is some = ap (λ (y : ℕ). y ∷ (p ++ after_first mark ps)) (sym (is refl))
join-step false mark x (p ∷ ps) is some = refl

some-by : (b : Bool) (x : ℕ) (ps : List (List ℕ)) → 0 < length ps → 0 < length (if b then [] ∷ ps else in_front x ps)
some-by b x [] some = absurd (omega (arith, some))
some-by true x (p ∷ ps) some = omega arith
some-by false x (p ∷ ps) some = omega arith

some-parts : (mark : ℕ) (bytes : List ℕ) → 0 < length (parts mark bytes)
some-parts mark [] = omega arith
some-parts mark (x ∷ xs) = some-by (x == mark) x (parts mark xs) (some-parts mark xs)

join-parts : (mark : ℕ) (bytes : List ℕ) → joined mark (parts mark bytes) ≡ bytes
join-parts mark [] = refl
join-parts mark (x ∷ xs) = join-step (x == mark) mark x (parts mark xs) (eq_from x mark) (some-parts mark xs) ∙ ap (λ (l : List ℕ). x ∷ l) (join-parts mark xs)

parts-same : (mark : ℕ) (a b : List ℕ) → parts mark a ≡ parts mark b → a ≡ b
parts-same mark a b h = sym (join-parts mark a) ∙ ap (joined mark) h ∙ join-parts mark b

-- the value of digits that are listed from the last one on
abbrev low_value : List ℕ → ℕ
low_value [] = 0
low_value (c ∷ ds) = low_value ds * 10 + digit_value c

-- and the first of the number, which is the last of these, isn't 0
abbrev IsLed : List ℕ → Type 0
IsLed [] = Unit {0}
IsLed (c ∷ []) = c ≡ 48 → ⊥
IsLed (c ∷ d ∷ ds) = IsLed (d ∷ ds)

led-rest : (c : ℕ) (ds : List ℕ) → IsLed (c ∷ ds) → IsLed ds
led-rest c [] led = tt
led-rest c (d ∷ ds) led = led

led-push : (ds : List ℕ) (c : ℕ) → (c ≡ 48 → ⊥) → IsLed (ds ++ c ∷ [])
led-push [] c other = other
led-push (d ∷ []) c other = other
led-push (d ∷ e ∷ ds) c other = led-push (e ∷ ds) c other

digit-is : (c : ℕ) → is_ascii_digit c ≡ true → digit_value c + 48 ≡ c
digit-is c h = let both = and_both _ _ h in digit_value_digit c (le_from 48 c both.0, le_from c 57 both.1)

digit-high : (c : ℕ) → is_ascii_digit c ≡ true → c ≤ 57
digit-high c h = le_from c 57 (and_both _ _ h).1

not-empty : (e : ℕ) (ys : List ℕ) → e ∷ ys ≡ [] → ⊥
not-empty e ys h = omega (arith, ap length h)

no-digits : (ys : List ℕ) → list_all is_ascii_digit ys ≡ true → IsLed ys → low_value ys ≡ 0 → ys ≡ []
no-digits [] digits led h = refl
no-digits (d ∷ []) digits led h = absurd (led (omega (arith, h, digit-is d (and_both _ _ digits).0)))
no-digits (d ∷ e ∷ ys) digits led h =
    absurd (not-empty e ys (no-digits (e ∷ ys) (and_both _ _ digits).1 led (omega (arith, h))))

digits-same : (xs ys : List ℕ) → list_all is_ascii_digit xs ≡ true → list_all is_ascii_digit ys ≡ true → IsLed xs → IsLed ys → low_value xs ≡ low_value ys → xs ≡ ys
digits-same [] ys dx dy lx ly h = sym (no-digits ys dy ly (sym h))
digits-same (c ∷ xs) [] dx dy lx ly h = no-digits (c ∷ xs) dx lx h
digits-same (c ∷ xs) (d ∷ ys) dx dy lx ly h =
    let mine = and_both _ _ dx in
    let other = and_both _ _ dy in
    let cv = digit-is c mine.0 in
    let dv = digit-is d other.0 in
    let ch = digit-high c mine.0 in
    let dh = digit-high d other.0 in
    let first : c ≡ d = omega (arith, h, cv, dv, ch, dh) in
    let rest : low_value xs ≡ low_value ys = omega (arith, h, cv, dv, ch, dh) in
    ap (λ (x : ℕ). x ∷ xs) first ∙ ap (λ (l : List ℕ). d ∷ l) (digits-same xs ys mine.1 other.1 (led-rest c xs lx) (led-rest d ys ly) rest)

low-is : (ds : List ℕ) → digits_value 10 (reverse ds) ≡ low_value ds
low-is [] = refl
low-is (c ∷ ds) = ap (digits_value 10) (reverse_onto ds c []) ∙ digits_value_push 10 (reverse ds) c ∙ ap (λ (n : ℕ). n * 10 + digit_value c) (low-is ds)

value-is : (text : List ℕ) → digits_value 10 text ≡ low_value (reverse text)
value-is text = ap (digits_value 10) (sym (reverse-reverse text)) ∙ low-is (reverse text)

all-reverse : (t : ℕ → Bool) (xs : List ℕ) → list_all t xs ≡ true → list_all t (reverse xs) ≡ true
all-reverse t [] h = refl
all-reverse t (x ∷ xs) h =
    let both = and_both _ _ h in
    ap (list_all t) (reverse_onto xs x []) ∙ list_all-append t (reverse xs) (x ∷ []) ∙ and_by _ _ (all-reverse t xs both.1) (and_by _ _ both.0 refl)

led-reverse : (c : ℕ) (cs : List ℕ) → (c ≡ 48 → ⊥) → IsLed (reverse (c ∷ cs))
led-reverse c cs other = subst IsLed (sym (reverse_onto cs c [])) (led-push (reverse cs) c other)

or-second : (a b : Bool) → a ≡ false → (a || b) ≡ true → b ≡ true
or-second true b e h = cc
or-second false b e h = h

-- a number is 0, or its first digit isn't
leading : (text : List ℕ) → is_number text ≡ true → (text ≡ 48 ∷ []) ⊎ IsLed (reverse text)
leading [] h = cc
leading (c ∷ []) h = elim (same_or_other c 48) [
  | inl zero ↦ inl (ap (λ (x : ℕ). x ∷ []) zero)
  | inr other ↦ inr (led-reverse c [] other)
]
leading (c ∷ d ∷ cs) h =
    let long : (length (c ∷ d ∷ cs) == 1) ≡ false = other_number (length (c ∷ d ∷ cs)) 1 (λ same. omega (arith, same)) in
    let last : (length (c ∷ d ∷ cs) == 1 || not (c == 48)) ≡ true = (and_both (nat_lt 0 (length (c ∷ d ∷ cs)) && list_all is_ascii_digit (c ∷ d ∷ cs)) _ h).1 in
    inr (led-reverse c (d ∷ cs) (λ zero. clash (eq_to c 48 zero) (not_true (c == 48) (or-second _ _ long last))))

all-digits : (text : List ℕ) → is_number text ≡ true → list_all is_ascii_digit text ≡ true
all-digits text h = (and_both (nat_lt 0 (length text)) (list_all is_ascii_digit text) (and_both _ (length text == 1 || not (slice_index text 0 == 48)) h).0).1

zero-none : (text : List ℕ) → is_number text ≡ true → IsLed (reverse text) → digits_value 10 text ≡ 0 → reverse text ≡ []
zero-none text h led none = no-digits (reverse text) (all-reverse is_ascii_digit text (all-digits text h)) led (sym (value-is text) ∙ none)

not-none : (text : List ℕ) → is_number text ≡ true → reverse text ≡ [] → ⊥
not-none text h none = let e : text ≡ [] = sym (reverse-reverse text) ∙ ap reverse none in clash h (ap is_number e)

-- a number has one text
number-same : (a b : List ℕ) (n : ℕ) → IsNumber a n → IsNumber b n → a ≡ b
number-same a b n h k = elim (leading a h.digits) [
  | inl zero ↦ elim (leading b k.digits) [
    | inl other ↦ zero ∙ sym other
    | inr led ↦ absurd (not-none b k.digits (zero-none b k.digits led (k.value ∙ sym h.value ∙ ap (digits_value 10) zero)))
  ]
  | inr led ↦ elim (leading b k.digits) [
    | inl zero ↦ absurd (not-none a h.digits (zero-none a h.digits led (h.value ∙ sym k.value ∙ ap (digits_value 10) zero)))
    | inr other ↦
        sym (reverse-reverse a) ∙ ap reverse (digits-same (reverse a) (reverse b) (all-reverse is_ascii_digit a (all-digits a h.digits)) (all-reverse is_ascii_digit b (all-digits b k.digits)) led other
        (sym (value-is a) ∙ h.value ∙ sym k.value ∙ value-is b)) ∙ reverse-reverse b
  ]
]

-- and so have a verdict, a row, the rows of a level and all levels
word-same : (v : Verdict) (a b : List ℕ) → Says v a → Says v b → a ≡ b
word-same Complete a b h k = h ∙ sym k
word-same Failed a b h k = h ∙ sym k
word-same Limited a b h k = h ∙ sym k
word-same Late a b h k = h ∙ sym k
word-same (Dominated place) a b h k = h.1 ∙ ap (λ (digits : List ℕ). codes "d" ++ digits) (number-same h.0 k.0 place h.2 k.2) ∙ sym k.1
word-same Kept a b h k = h ∙ sym k

words-same : (vs : List Verdict) (xs ys : List (List ℕ)) → AllSay vs xs → AllSay vs ys → xs ≡ ys
words-same [] [] [] h k = refl
words-same [] [] (b ∷ ys) h k = absurd k
words-same [] (a ∷ xs) ys h k = absurd h
words-same (v ∷ vs) [] ys h k = absurd h
words-same (v ∷ vs) (a ∷ xs) [] h k = absurd k
words-same (v ∷ vs) (a ∷ xs) (b ∷ ys) h k = ap (λ (x : List ℕ). x ∷ xs) (word-same v a b h.0 k.0) ∙ ap (λ (l : List (List ℕ)). b ∷ l) (words-same vs xs ys h.1 k.1)

line-same : (vs : List Verdict) (a b : List ℕ) → IsRow vs a → IsRow vs b → a ≡ b
line-same [] a b h k = h ∙ sym k
line-same (v ∷ vs) a b h k = parts-same space a b (words-same (v ∷ vs) (parts space a) (parts space b) h k)

lines-same : (rows : List (List Verdict)) (xs ys : List (List ℕ)) → AreRows rows xs → AreRows rows ys → xs ≡ ys
lines-same [] [] [] h k = refl
lines-same [] [] (b ∷ ys) h k = absurd k
lines-same [] (a ∷ xs) ys h k = absurd h
lines-same (row ∷ rows) [] ys h k = absurd h
lines-same (row ∷ rows) (a ∷ xs) [] h k = absurd k
lines-same (row ∷ rows) (a ∷ xs) (b ∷ ys) h k = ap (λ (x : List ℕ). x ∷ xs) (line-same row a b h.0 k.0) ∙ ap (λ (l : List (List ℕ)). b ∷ l) (lines-same rows xs ys h.1 k.1)

levels-same : (level : ℕ) (levels : List (List (List Verdict))) (xs ys : List (List ℕ)) → AreLevels level levels xs → AreLevels level levels ys → xs ≡ ys
levels-same level [] xs ys h k = h ∙ sym k
levels-same level (rows ∷ levels) xs ys h k =
    let whole : List (List ℕ) → List (List ℕ) → List (List ℕ) = λ here later. level_line level (length rows) ∷ (here ++ later) in
    h.1.1.0 ∙ ap (λ (here : List (List ℕ)). whole here h.1.0) (lines-same rows h.0 k.0 h.1.1.1 k.1.1.1) ∙ ap (whole k.0) (levels-same (level + 1) levels h.1.0 k.1.0 h.1.1.2 k.1.1.2) ∙ sym k.1.1.0

pub text-same : (certificate : Certificate) (a b : List ℕ) → IsText certificate a → IsText certificate b → a ≡ b
text-same certificate a b h k =
    parts-same line_end a b (h.lines ∙ ap (λ (later : List (List ℕ)). first_line certificate.grain ∷ best_line certificate.actions ∷ later) (levels-same 0 certificate.levels h.later k.later h.shown k.shown) ∙ sym k.lines)
