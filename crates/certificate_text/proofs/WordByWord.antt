-- Reading a row word by word.
use Rattle.std.proofs.Common.{◌≡◌, ◌∙◌, sym, ℕ, suc, ◌+◌, ◌<◌, ◌≤◌, ◌==◌, Bool, true, false, List, [], ◌∷◌, ◌++◌, append_assoc, length, length-drop, ◌-◌, min, map, take, drop, get_or, Some, None, refl, ap, subst, arith, if◌then◌else◌}
use Rattle.std.specs.List.{position}
use Rattle.std.specs.Str.Parse.{digits_value}
use Rattle.certificate_text.specs.declared.verdict.Verdict.TheVariants.{Dominated}
use Rattle.std.proofs.lemmas.List.{drop-drop, take_rest}
use Rattle.certificate_text.specs.declared.verdict.Verdict.{Verdict}
use Rattle.certificate_text.specs.Text.{space, is_number, in_front, parts, Says, AllSay, IsRow}
use Rattle.certificate_text.specs.Reading.{as_read, IsRead, IsNoRow, IsReadRow}
use Rattle.certificate_text.specs.declared.numbers.TheConstants.{MOST_NUMBER}
use Rattle.certificate_text.proofs.Parts.{parts-at, parts-whole, position-less}

-- what the words that are left tell of the row, after so many that were read so
pub record Left (line : List ℕ) (count read : ℕ) (row : List Verdict) (texts : List (List ℕ)) : Type 0 where
  pub need : (vs : List Verdict) → IsRow vs line → length vs ≡ count → (us : List Verdict) × (AllSay us texts × (length us + read ≡ count))
  pub give : (us : List Verdict) → AllSay us texts → 0 < length us → (vs : List Verdict) × (IsRow vs line × (length vs ≡ length us + read) × (map as_read vs ≡ row ++ map as_read us))

row-some : (vs : List Verdict) (line : List ℕ) → 0 < length vs → AllSay vs (parts space line) → IsRow vs line
row-some [] line some h = absurd (omega (arith, some))
row-some (v ∷ vs) line some h = h

row-says : (vs : List Verdict) (line : List ℕ) → 0 < length vs → IsRow vs line → AllSay vs (parts space line)
row-says [] line some h = absurd (omega (arith, some))
row-says (v ∷ vs) line some h = h

pub left-start : (line : List ℕ) (count : ℕ) → 0 < count → Left line count 0 [] (parts space line)
left-start line count some = record {
  need = λ vs h same. (vs, (row-says vs line (omega (arith, same, some)) h, omega (arith, same)));
  give = λ us h more. (us, (row-some us line more h, omega arith, refl));
}

pub record Split (word : List ℕ) (texts : List (List ℕ)) (us : List Verdict) : Type 0 where
  pub first : Verdict
  pub rest : List Verdict
  pub is : us ≡ first ∷ rest
  pub says : Says first word
  pub say : AllSay rest texts

pub split : (word : List ℕ) (texts : List (List ℕ)) (us : List Verdict) → AllSay us (word ∷ texts) → Split word texts us
split word texts [] h = absurd h
split word texts (u ∷ us) h = record { first = u; rest = us; is = refl; says = h.0; say = h.1 }

pub left-next : (line : List ℕ) (count read : ℕ) (row : List Verdict) (word : List ℕ) (texts : List (List ℕ)) (v : Verdict) → Left line count read row (word ∷ texts) → Says v word →
    Left line count (read + 1) (row ++ as_read v ∷ []) texts
left-next line count read row word texts v left says = record {
  need = λ vs h same.
      let found = left.need vs h same in
      let cut = split word texts found.0 found.1.0 in
      (cut.rest, (cut.say, omega (arith, found.1.1, ap length cut.is)));
  give = λ us h more.
      let found = left.give (v ∷ us) (says, h) (omega arith) in
      (found.0, (found.1.0, omega (arith, found.1.1), found.1.2 ∙ sym (append_assoc row (as_read v ∷ []) (map as_read us))));
}

pub all-say-long : (us : List Verdict) (texts : List (List ℕ)) → AllSay us texts → length us ≡ length texts
all-say-long [] [] h = refl
all-say-long [] (text ∷ texts) h = absurd h
all-say-long (u ∷ us) [] h = absurd h
all-say-long (u ∷ us) (text ∷ texts) h = ap suc (all-say-long us texts h.1)

some-by : (b : Bool) (x : ℕ) (ps : List (List ℕ)) → 1 ≤ length (if b then [] ∷ ps else in_front x ps)
some-by true x ps = omega arith
some-by false x [] = omega arith
some-by false x (p ∷ ps) = omega arith

pub parts-some : (mark : ℕ) (bytes : List ℕ) → 1 ≤ length (parts mark bytes)
parts-some mark [] = omega arith
parts-some mark (x ∷ bytes) = some-by (x == mark) x (parts mark bytes)

-- a slice from a place on
abbrev pub from_on : ℕ → List ℕ → List ℕ
from_on from line = take (length line - from) (drop from line)

-- the row so far, and the next word
pub row-next : (line : List ℕ) (count read : ℕ) (row : List Verdict) (from end : ℕ) (v : Verdict) → position (λ byte. byte == space) (from_on from line) ≡ Some end →
    Left line count read row (parts space (from_on from line)) → IsRead (take end (from_on from line)) v → Left line count (read + 1) (row ++ v ∷ []) (parts space (from_on (from + (end + 1)) line))
row-next line count read row from end v found left is =
    let more : drop (end + 1) (from_on from line) ≡ from_on (from + (end + 1)) line = ap (λ (l : List ℕ). drop (end + 1) l) (take_rest line from) ∙ drop-drop (end + 1) from line ∙ sym (take_rest line (from + (end + 1))) in
    let e : parts space (from_on from line) ≡ take end (from_on from line) ∷ parts space (from_on (from + (end + 1)) line) = parts-at space (from_on from line) end found ∙ ap (λ (l : List ℕ). take end (from_on from line) ∷ parts space l) more in
    subst (λ (w : Verdict). Left line count (read + 1) (row ++ w ∷ []) (parts space (from_on (from + (end + 1)) line))) (sym is.1.1)
    (left-next line count read row (take end (from_on from line)) (parts space (from_on (from + (end + 1)) line)) is.0 (subst (λ (ts : List (List ℕ)). Left line count read row ts) e left) is.1.0)

-- no word is left where one is wanted
pub row-short : (line : List ℕ) (count read : ℕ) (row : List Verdict) (from : ℕ) → position (λ byte. byte == space) (from_on from line) ≡ None →
    Left line count read row (parts space (from_on from line)) → read + 1 < count → IsNoRow line count
row-short line count read row from none left fewer vs h same =
    let found = left.need vs h same in
    let long : length found.0 ≡ 1 = all-say-long found.0 _ found.1.0 ∙ ap (λ (ts : List (List ℕ)). length ts) (parts-whole space (from_on from line) none) in
    absurd (omega (arith, long, found.1.1, fewer))

-- more words are left than are wanted
pub row-wide : (line : List ℕ) (count read : ℕ) (row : List Verdict) (from end : ℕ) → position (λ byte. byte == space) (from_on from line) ≡ Some end →
    Left line count read row (parts space (from_on from line)) → count ≤ read + 1 → IsNoRow line count
row-wide line count read row from end is left most vs h same =
    let found = left.need vs h same in
    let long : length found.0 ≡ length (parts space (from_on from line)) = all-say-long found.0 _ found.1.0 in
    let split : length (parts space (from_on from line)) ≡ suc (length (parts space (drop (end + 1) (from_on from line)))) = ap (λ (ts : List (List ℕ)). length ts) (parts-at space (from_on from line) end is) in
    absurd (omega (arith, long, found.1.1, most, split, parts-some space (drop (end + 1) (from_on from line))))

no-word : (line : List ℕ) (count read : ℕ) (row : List Verdict) (word : List ℕ) (texts : List (List ℕ)) → Left line count read row (word ∷ texts) → ((v : Verdict) → Says v word → ⊥) → IsNoRow line count
no-word line count read row word texts left none vs h same =
    let found = left.need vs h same in
    let cut = split word texts found.0 found.1.0 in
    none cut.first cut.says

-- the next word is no verdict
pub row-bad : (line : List ℕ) (count read : ℕ) (row : List Verdict) (from end : ℕ) → position (λ byte. byte == space) (from_on from line) ≡ Some end →
    Left line count read row (parts space (from_on from line)) → ((v : Verdict) → Says v (take end (from_on from line)) → ⊥) → IsNoRow line count
row-bad line count read row from end found left none =
    no-word line count read row _ _ (subst (λ (ts : List (List ℕ)). Left line count read row ts) (parts-at space (from_on from line) end found) left) none

-- the last word is no verdict
pub row-bad_last : (line : List ℕ) (count read : ℕ) (row : List Verdict) (from : ℕ) → position (λ byte. byte == space) (from_on from line) ≡ None →
    Left line count read row (parts space (from_on from line)) → ((v : Verdict) → Says v (from_on from line) → ⊥) → IsNoRow line count
row-bad_last line count read row from found left none =
    no-word line count read row _ _ (subst (λ (ts : List (List ℕ)). Left line count read row ts) (parts-whole space (from_on from line) found) left) none

-- the last word
pub row-whole : (line : List ℕ) (count read : ℕ) (row : List Verdict) (from : ℕ) (v : Verdict) → position (λ byte. byte == space) (from_on from line) ≡ None →
    Left line count read row (parts space (from_on from line)) → IsRead (from_on from line) v → read + 1 ≡ count → IsReadRow line count (row ++ v ∷ [])
row-whole line count read row from v found left is same =
    let here : Left line count read row (from_on from line ∷ []) = subst (λ (ts : List (List ℕ)). Left line count read row ts) (parts-whole space (from_on from line) found) left in
    let given = here.give (is.0 ∷ []) (is.1.0, tt) (omega arith) in
    (given.0, (given.1.0, omega (arith, given.1.1, same), ap (λ (w : Verdict). row ++ w ∷ []) is.1.1 ∙ sym given.1.2))

-- the mark stands within the line
pub mark-inside : (line : List ℕ) (from end : ℕ) → from ≤ length line → position (λ byte. byte == space) (from_on from line) ≡ Some end → from + (end + 1) ≤ length line
mark-inside line from end inside h =
    let less = position-less space (from_on from line) end h in
    let long : length (from_on from line) ≡ length line - from = ap (λ (l : List ℕ). length l) (take_rest line from) ∙ length-drop from line in
    omega (arith, less, long, inside)

pub left-at-start : (line : List ℕ) (count : ℕ) → 0 < count → Left line count 0 [] (parts space (from_on 0 line))
left-at-start line count some = subst (λ (l : List ℕ). Left line count 0 [] (parts space l)) (sym (take_rest line 0)) (left-start line count some)

-- a text by its first byte
pub headed : (text : List ℕ) (first : ℕ) → 0 < length text → get_or text 0 0 ≡ first → text ≡ first ∷ drop 1 text
headed [] first some is = absurd (omega (arith, some))
headed (x ∷ text) first some is = ap (λ (b : ℕ). b ∷ text) is

-- a word with a place
pub placed : (word : List ℕ) (place : ℕ) → 0 < length word → get_or word 0 0 ≡ 100 → is_number (from_on 1 word) ≡ true → place ≡ min (digits_value 10 (from_on 1 word)) MOST_NUMBER → IsRead word (Dominated place)
placed word place some first digits is =
    let e : from_on 1 word ≡ drop 1 word = take_rest word 1 in
    let number : is_number (drop 1 word) ≡ true = subst (λ (l : List ℕ). is_number l ≡ true) e digits in
    let same : place ≡ min (digits_value 10 (drop 1 word)) MOST_NUMBER = is ∙ ap (λ (l : List ℕ). min (digits_value 10 l) MOST_NUMBER) e in
    (Dominated (digits_value 10 (drop 1 word)), ((drop 1 word, headed word 100 some first, record { digits = number; value = refl }), ap Dominated same))
