-- The lines that are written are the text of a certificate.
use Rattle.std.proofs.Common.{◌≡◌, ◌∙◌, sym, ℕ, ◌+◌, ◌<◌, ◌≤◌, ◌^◌, ◌%◌, ◌==◌, ◌&&◌, ◌||◌, nat_lt, not, Bool, true, false, inl, inr, List, [], ◌∷◌, ◌++◌, append_assoc, append-nil, length, map, get_or, refl, ap, subst, arith, codes}
use Rattle.std.specs.List.{list_all, flat_map}
use Rattle.std.specs.Char.{is_ascii_digit}
use Rattle.std.specs.Fmt.{decimal}
use Rattle.std.proofs.lemmas.Bool.Decides.{nat_tests}
use Rattle.std.proofs.lemmas.Fmt.{decimal_by_steps, decimal_is_IsNumeral, decimal_nonempty, decimal_digit, first_decimal}
use Rattle.std.proofs.lemmas.List.Folds.{list_all-append}
use Rattle.plain_lemmas.proofs.Tests.{and_by, lt_to, ways, other_number}
use Rattle.action_table.specs.declared.action.Action.{Action}
use Rattle.action_table.specs.Table.{number_of}
use Rattle.action_table.proofs.Names.{number_below}
use Rattle.certificate_text.specs.declared.verdict.Verdict.{Verdict}
use Rattle.certificate_text.specs.declared.verdict.Verdict.TheVariants.{Complete, Failed, Limited, Late, Dominated, Kept}
use Rattle.certificate_text.specs.Text.{line_end, space, parts, IsNumber, first_line, best_line, level_line, Says, AllSay, IsRow, AreRows, AreLevels}
use Rattle.certificate_text.proofs.Printed.{parts-word, parts-last}
use Rattle.certificate_laws.specs.Claims.{Claim}
use Rattle.certificate_laws.specs.Made.{IsMade}
use Rattle.macro_order.specs.Order.{score_of}
use Rattle.std.specs.Prelude.{Some}
use Rattle.certificate_maker.specs.Written.{verdict_word, words_from, row_line, ended, level_lines, IsSmall, AreSmall, RowsSmall, LevelsSmall, IsWritten}

-- no byte is the mark
abbrev has_no : ℕ → List ℕ → Bool
has_no mark bytes = list_all (λ byte. not (byte == mark)) bytes

all-append : (t : ℕ → Bool) (xs ys : List ℕ) → list_all t xs ≡ true → list_all t ys ≡ true → list_all t (xs ++ ys) ≡ true
all-append t xs ys h k = list_all-append t xs ys ∙ and_by (list_all t xs) (list_all t ys) h k

no-digit : (n mark : ℕ) → mark < 48 → has_no mark ((48 + n) ∷ []) ≡ true
no-digit n mark low = rw (other_number (48 + n) mark (λ same. omega (arith, same, low))) refl

-- digits are no mark
decimal-no : (mark n : ℕ) → mark < 48 → n < 2 ^ 64 → has_no mark (decimal n) ≡ true
decimal-no mark n low small =
    decimal_by_steps (λ m ds. has_no mark ds ≡ true) (λ m h. no-digit m mark low) (λ m ds h rest. all-append (λ byte. not (byte == mark)) ds ((48 + m % 10) ∷ []) rest (no-digit (m % 10) mark low)) n small

digit-all : (n : ℕ) → n < 10 → list_all is_ascii_digit ((48 + n) ∷ []) ≡ true
digit-all n h = grind (arith, nat_tests)

decimal-digits : (n : ℕ) → n < 2 ^ 64 → list_all is_ascii_digit (decimal n) ≡ true
decimal-digits n small =
    decimal_by_steps (λ m ds. list_all is_ascii_digit ds ≡ true) digit-all (λ m ds h rest. all-append is_ascii_digit ds ((48 + m % 10) ∷ []) rest (digit-all (m % 10) (omega arith))) n small

first-by : (ds : List ℕ) → 48 < get_or ds 0 0 → (length ds == 1 || not (get_or ds 0 0 == 48)) ≡ true
first-by ds h = grind (arith, nat_tests)

decimal-first : (n : ℕ) → n < 2 ^ 64 → (length (decimal n) == 1 || not (get_or (decimal n) 0 0 == 48)) ≡ true
decimal-first n small = elim (ways n 0) [
  | inl below ↦ absurd (omega (arith, below))
  | inr (inl none) ↦ rw (none, decimal_digit 0 (omega arith)) refl
  | inr (inr some) ↦ first-by (decimal n) (first_decimal n some small)
]

-- a printed number is the text of the number
decimal-number : (n : ℕ) → n < 2 ^ 64 → IsNumber (decimal n) n
decimal-number n small = record {
  digits = and_by (nat_lt 0 (length (decimal n)) && list_all is_ascii_digit (decimal n)) (length (decimal n) == 1 || not (get_or (decimal n) 0 0 == 48))
      (and_by (nat_lt 0 (length (decimal n))) (list_all is_ascii_digit (decimal n)) (lt_to 0 (length (decimal n)) (decimal_nonempty n small)) (decimal-digits n small)) (decimal-first n small);
  value = (decimal_is_IsNumeral n small).1;
}

-- the word of a verdict says it
word-says : (v : Verdict) → IsSmall v → Says v (verdict_word v)
word-says Complete small = refl
word-says Failed small = refl
word-says Limited small = refl
word-says Late small = refl
word-says (Dominated place) small = (decimal place, refl, decimal-number place small)
word-says Kept small = refl

word-no : (mark : ℕ) (v : Verdict) → mark < 48 → IsSmall v → has_no mark (verdict_word v) ≡ true
word-no mark Complete low small = rw (other_number 99 mark (λ same. omega (arith, same, low))) refl
word-no mark Failed low small = rw (other_number 102 mark (λ same. omega (arith, same, low))) refl
word-no mark Limited low small = rw (other_number 113 mark (λ same. omega (arith, same, low))) refl
word-no mark Late low small = rw (other_number 115 mark (λ same. omega (arith, same, low))) refl
word-no mark (Dominated place) low small =
    all-append (λ byte. not (byte == mark)) (codes "d") (decimal place) (rw (other_number 100 mark (λ same. omega (arith, same, low))) refl) (decimal-no mark place low small)
word-no mark Kept low small = rw (other_number 107 mark (λ same. omega (arith, same, low))) refl

-- a word and those after it, cut at the spaces
cut-words : (v : Verdict) (vs : List Verdict) → IsSmall v → AreSmall vs → parts space (verdict_word v ++ words_from false vs) ≡ verdict_word v ∷ map verdict_word vs
cut-words v [] small smalls = ap (parts space) (append-nil (verdict_word v)) ∙ parts-last space (verdict_word v) (word-no space v (omega arith) small)
cut-words v (w ∷ vs) small smalls =
    parts-word space (verdict_word v) (verdict_word w ++ words_from false vs) (word-no space v (omega arith) small)
    ∙ ap (λ (l : List (List ℕ)). verdict_word v ∷ l) (cut-words w vs smalls.0 smalls.1)

all-say : (vs : List Verdict) → AreSmall vs → AllSay vs (map verdict_word vs)
all-say [] small = tt
all-say (v ∷ vs) small = (word-says v small.0, all-say vs small.1)

row-says : (vs : List Verdict) → AreSmall vs → IsRow vs (row_line vs)
row-says [] small = refl
row-says (v ∷ vs) small = subst (λ (texts : List (List ℕ)). AllSay (v ∷ vs) texts) (sym (cut-words v vs small.0 small.1)) (all-say (v ∷ vs) small)

rows-say : (rows : List (List Verdict)) → RowsSmall rows → AreRows rows (map row_line rows)
rows-say [] small = tt
rows-say (row ∷ rows) small = (row-says row small.0, rows-say rows small.1)

levels-say : (level : ℕ) (levels : List (List (List Verdict))) → LevelsSmall level levels → AreLevels level levels (level_lines level levels ++ [] ∷ [])
levels-say level [] small = refl
levels-say level (rows ∷ levels) small = (
  map row_line rows,
  (
    level_lines (level + 1) levels ++ [] ∷ [],
    (ap (λ (l : List (List ℕ)). level_line level (length rows) ∷ l) (append_assoc (map row_line rows) (level_lines (level + 1) levels) ([] ∷ [])), rows-say rows small.2, levels-say (level + 1) levels small.3),
  ),
)

-- no line has an end of a line in it
abbrev AreWhole : List (List ℕ) → Type 0
AreWhole [] = Unit {0}
AreWhole (line ∷ lines) = (has_no line_end line ≡ true) × AreWhole lines

parts-ended : (lines : List (List ℕ)) → AreWhole lines → parts line_end (ended lines) ≡ lines ++ [] ∷ []
parts-ended [] whole = refl
parts-ended (line ∷ lines) whole = parts-word line_end line (ended lines) whole.0 ∙ ap (λ (l : List (List ℕ)). line ∷ l) (parts-ended lines whole.1)

whole-append : (xs ys : List (List ℕ)) → AreWhole xs → AreWhole ys → AreWhole (xs ++ ys)
whole-append [] ys h k = k
whole-append (x ∷ xs) ys h k = (h.0, whole-append xs ys h.1 k)

words-whole : (first : Bool) (vs : List Verdict) → AreSmall vs → has_no line_end (words_from first vs) ≡ true
words-whole first [] small = refl
words-whole true (v ∷ vs) small = all-append (λ byte. not (byte == line_end)) (verdict_word v) (words_from false vs) (word-no line_end v (omega arith) small.0) (words-whole false vs small.1)
words-whole false (v ∷ vs) small = all-append (λ byte. not (byte == line_end)) (verdict_word v) (words_from false vs) (word-no line_end v (omega arith) small.0) (words-whole false vs small.1)

rows-whole : (rows : List (List Verdict)) → RowsSmall rows → AreWhole (map row_line rows)
rows-whole [] small = tt
rows-whole (row ∷ rows) small = (words-whole true row small.0, rows-whole rows small.1)

level-whole : (level count : ℕ) → level < 2 ^ 64 → count < 2 ^ 64 → has_no line_end (level_line level count) ≡ true
level-whole level count low few =
    all-append (λ byte. not (byte == line_end)) (codes "level ") (decimal level ++ (codes " " ++ decimal count)) refl
    (all-append (λ byte. not (byte == line_end)) (decimal level) (codes " " ++ decimal count) (decimal-no line_end level (omega arith) low)
    (all-append (λ byte. not (byte == line_end)) (codes " ") (decimal count) refl (decimal-no line_end count (omega arith) few)))

levels-whole : (level : ℕ) (levels : List (List (List Verdict))) → LevelsSmall level levels → AreWhole (level_lines level levels)
levels-whole level [] small = (level-whole level 0 small (omega arith), tt)
levels-whole level (rows ∷ levels) small =
    (level-whole level (length rows) small.0 small.1, whole-append (map row_line rows) (level_lines (level + 1) levels) (rows-whole rows small.2) (levels-whole (level + 1) levels small.3))

numbers-whole : (actions : List Action) → has_no line_end (flat_map (λ action. codes " " ++ decimal (number_of action)) actions) ≡ true
numbers-whole [] = refl
numbers-whole (a ∷ actions) =
    let t : ℕ → Bool = λ byte. not (byte == line_end) in
    let word : List ℕ = codes " " ++ decimal (number_of a) in
    let small : number_of a < 2 ^ 64 = omega (arith, number_below a) in
    all-append t word (flat_map (λ action. codes " " ++ decimal (number_of action)) actions) (all-append t (codes " ") (decimal (number_of a)) refl (decimal-no line_end (number_of a) (omega arith) small)) (numbers-whole actions)

opening-whole : (grain : ℕ) (actions : List Action) → grain ≤ 64 → AreWhole (first_line grain ∷ (best_line actions ∷ []))
opening-whole grain actions most =
    let t : ℕ → Bool = λ byte. not (byte == line_end) in (
      all-append t (codes "raphael certificate 1 grain ") (decimal grain) refl (decimal-no line_end grain (omega arith) (omega (arith, most))),
      (all-append t (codes "best") (flat_map (λ action. codes " " ++ decimal (number_of action)) actions) refl (numbers-whole actions), tt),
    )

-- what is written is what is made
pub written-made : (claim : Claim) (bytes : List ℕ) → claim.grain ≤ 64 → score_of claim.g claim.actions ≡ Some claim.score → IsWritten claim bytes → IsMade claim.g claim.grain claim.actions bytes
written-made claim bytes most completes written =
    let lines : List (List ℕ) = first_line claim.grain ∷ (best_line claim.actions ∷ level_lines 0 written.levels) in
    record {
      score = claim.score;
      completes = completes;
      levels = written.levels;
      text = record {
        later = level_lines 0 written.levels ++ [] ∷ [];
        lines = ap (parts line_end) written.is ∙ parts-ended lines (whole-append (first_line claim.grain ∷ (best_line claim.actions ∷ [])) (level_lines 0 written.levels) (opening-whole claim.grain claim.actions most) (levels-whole 0 written.levels written.small));
        shown = levels-say 0 written.levels written.small;
      };
      made = written.made;
    }
