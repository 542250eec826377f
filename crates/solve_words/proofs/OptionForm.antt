-- The reader of options finds just what their form says.
use Rattle.std.proofs.Common.{◌≡◌, ◌≤◌, ℕ, ◌+◌, ◌&&◌, ◌||◌, ◌↔◌, Bool, true, false, not, cond, List, [], ◌∷◌, ◌++◌, Option, Some, None, refl, sym, ap, ap₂, ◌∙◌, subst, arith, true≢false, append-nil, append_assoc}
use Rattle.std.specs.Prelude.{count_by, flat_map}
use Rattle.std.specs.List.{list_all}
use Rattle.std.specs.Str.{bytes_eq}
use Rattle.std.proofs.lemmas.List.Sums.{sum_by-append}
use Rattle.std.proofs.lemmas.Slice.Eq.{bytes_eq-Decides}
use Rattle.clap.specs.Lexer.{long_of}
use Rattle.clap.proofs.WalkLemmas.{both}
use Rattle.solve_words.specs.Form.{Text, Given, has, is_option, is_hyphened, add, on_word, given_from, given_in}
use Rattle.solve_words.specs.Options.{IsWritten, AreWritten, AreOptions}

-- ---- each at most once

abbrev count : Text → List Given → ℕ
count name given = count_by (λ p. bytes_eq p.0 name) given

abbrev Once : List Given → Type 0
Once given = (name : Text) → count name given ≤ 1

count-cons : (n : Text) (p : Given) (ps : List Given) → count n (p ∷ ps) ≡ cond (bytes_eq p.0 n) 1 0 + count n ps
count-cons n p ps =
    let parts : count n (p ∷ ps) ≡ (0 + cond (bytes_eq p.0 n) 1 0) + count n ps = sum_by-append (λ (x : Given). cond (bytes_eq x.0 n) 1 0) (p ∷ []) ps in
    omega (arith, parts)

count-none : (n : Text) (given : List Given) → has n given ≡ false → count n given ≡ 0
count-none n [] e = refl
count-none n (p ∷ ps) e = count-cons n p ps ∙ go (bytes_eq p.0 n) e (count-none n ps)
  where
    go : (b : Bool) → (b || has n ps) ≡ false → (has n ps ≡ false → count n ps ≡ 0) → cond b 1 0 + count n ps ≡ 0
    go true e ih = absurd (true≢false e)
    go false e ih = omega (arith, ih e)

none-count : (n : Text) (given : List Given) → count n given ≡ 0 → has n given ≡ false
none-count n [] e = refl
none-count n (p ∷ ps) e = go (bytes_eq p.0 n) (sym (count-cons n p ps) ∙ e) (none-count n ps)
  where
    go : (b : Bool) → cond b 1 0 + count n ps ≡ 0 → (count n ps ≡ 0 → has n ps ≡ false) → (b || has n ps) ≡ false
    go true e ih = absurd (omega (arith, e))
    go false e ih = let none : count n ps ≡ 0 = omega (arith, e) in ih none

count-more : (q : Text) (before : List Given) (n v : Text) (more : List Given) →
    count q (before ++ (n, v) ∷ more) ≡ count q before + (cond (bytes_eq n q) 1 0 + count q more)
count-more q before n v more =
    let parts : count q (before ++ (n, v) ∷ more) ≡ count q before + count q ((n, v) ∷ more) = sum_by-append (λ (p : Given). cond (bytes_eq p.0 q) 1 0) before ((n, v) ∷ more) in
    parts ∙ ap (λ m. count q before + m) (count-cons q (n, v) more)

once-add : (before : List Given) (n v : Text) → Once before → has n before ≡ false → Once (before ++ (n, v) ∷ [])
once-add before n v once new q =
    let parts = count-more q before n v [] in
    let bound = go (bytes_eq n q) refl in
    subst (λ (x : ℕ). x ≤ 1) (sym parts) bound
  where
    go : (b : Bool) → bytes_eq n q ≡ b → count q before + (cond b 1 0 + 0) ≤ 1
    go true e =
        let none : count q before ≡ 0 = ap (λ (m : Text). count m before) (sym ((bytes_eq-Decides n q).0 e)) ∙ count-none n before new in
        omega (arith, none)
    go false e = omega (arith, once q)

once-new : (before : List Given) (n v : Text) (more : List Given) → Once (before ++ (n, v) ∷ more) → has n before ≡ false
once-new before n v more once =
    let parts = count-more n before n v more in
    let one : ◌≡◌ {A = ℕ} (cond {A = ℕ} (bytes_eq n n) 1 0) 1 = ap (λ b. cond {A = ℕ} b 1 0) ((bytes_eq-Decides n n).1 refl) in
    let bound = once n in
    let none : count n before ≡ 0 = omega (arith, parts, one, bound) in
    none-count n before none

-- ---- what is read has the form

record Rest (names : List Text) (before : List Given) (words : List Text) (given : List Given) : Type 0 where
  pub more : List Given
  pub is : given ≡ before ++ more
  pub parts : List (List Text)
  pub cut : words ≡ flat_map (λ part. part) parts
  pub written : AreWritten more parts
  pub known : list_all (λ p. is_option names p.0) more ≡ true
  pub once : Once given

extend : (names : List Text) (before : List Given) (n v : Text) (part rest : List Text) (given : List Given) → IsWritten (n, v) part → is_option names n ≡ true →
    Rest names (before ++ (n, v) ∷ []) rest given → Rest names before (part ++ rest) given
extend names before n v part rest given written known r = record {
  more = (n, v) ∷ r.more;
  is = r.is ∙ append_assoc before ((n, v) ∷ []) r.more;
  parts = part ∷ r.parts;
  cut = ap (λ (ws : List Text). part ++ ws) r.cut;
  written = (written, r.written);
  known = ap (λ b. b && list_all (λ (p : Given). is_option names p.0) r.more) known ∙ r.known;
  once = r.once;
}

added : (names : List Text) (before : List Given) (n v : Text) (next : List Given → Option (List Given)) (given : List Given) → add names before n v next ≡ Some given →
    (is_option names n ≡ true) × (has n before ≡ false) × (next (before ++ (n, v) ∷ []) ≡ Some given)
added names before n v next given e = go (is_option names n) (has n before) refl refl e
  where
    go : (a b : Bool) → is_option names n ≡ a → has n before ≡ b → cond (a && not b) (next (before ++ (n, v) ∷ [])) None ≡ Some given →
        (is_option names n ≡ true) × (has n before ≡ false) × (next (before ++ (n, v) ∷ []) ≡ Some given)
    go true false known new e = (known, new, e)
    go true true known new e = absurd (cc)
    go false b known new e = absurd (cc)

-- the words go on with the value of an option
record Waits (names : List Text) (n : Text) (before : List Given) (words : List Text) (given : List Given) : Type 0 where
  pub value : Text
  pub left : List Text
  pub are : words ≡ value ∷ left
  pub plain : is_hyphened value ≡ false
  pub known : is_option names n ≡ true
  pub rest : Rest names (before ++ (n, value) ∷ []) left given

record Reads (names words : List Text) : Type 0 where
  pub idle : (before given : List Given) → given_from names before None words ≡ Some given → Once before → Rest names before words given
  pub waiting : (n : Text) (before given : List Given) → given_from names before (Some n) words ≡ Some given → Once before → Waits names n before words given

ended : (names : List Text) (before given : List Given) → given_from names before None [] ≡ Some given → Once before → Rest names before [] given
ended names before given e once =
    let same : before ≡ given = cc in
    record {
      more = [];
      is = sym same ∙ sym (append-nil before);
      parts = [];
      cut = refl;
      written = tt;
      known = refl;
      once = subst Once same once;
    }

begun : (names : List Text) (word : Text) (rest : List Text) → Reads names rest → (before given : List Given) → given_from names before None (word ∷ rest) ≡ Some given → Once before →
    Rest names before (word ∷ rest) given
begun names word rest ih before given e once = go (long_of word) refl e
  where
    go : (o : Option (Text × Option Text)) → long_of word ≡ o →
        on_word (λ name. given_from names before (Some name) rest) (λ name value. add names before name value (λ more. given_from names more None rest)) o ≡ Some given →
        Rest names before (word ∷ rest) given
    go None long e = absurd (cc)
    go (Some (n, Some v)) long e =
        let a = added names before n v (λ more. given_from names more None rest) given e in
        extend names before n v (word ∷ []) rest given long a.0 (ih.idle (before ++ (n, v) ∷ []) given a.2 (once-add before n v once a.1))
    go (Some (n, None)) long e =
        let w = ih.waiting n before given e once in
        subst (λ (ws : List Text). Rest names before (word ∷ ws) given) (sym w.are)
        (extend names before n w.value (word ∷ w.value ∷ []) w.left given (long, refl, w.plain) w.known w.rest)

goes_on : (names : List Text) (word : Text) (rest : List Text) → Reads names rest → (n : Text) (before given : List Given) → given_from names before (Some n) (word ∷ rest) ≡ Some given → Once before →
    Waits names n before (word ∷ rest) given
goes_on names word rest ih n before given e once = go (is_hyphened word) refl e
  where
    go : (b : Bool) → is_hyphened word ≡ b → cond b None (add names before n word (λ more. given_from names more None rest)) ≡ Some given → Waits names n before (word ∷ rest) given
    go true hyphened e = absurd (cc)
    go false plain e =
        let a = added names before n word (λ more. given_from names more None rest) given e in
        record { value = word; left = rest; are = refl; plain = plain; known = a.0; rest = ih.idle (before ++ (n, word) ∷ []) given a.2 (once-add before n word once a.1) }

reads : (names words : List Text) → Reads names words
reads names [] = record { idle = ended names; waiting = λ n before given e once. absurd (cc) }
reads names (word ∷ rest) = let ih = reads names rest in record { idle = begun names word rest ih; waiting = goes_on names word rest ih }

-- ---- what has the form is read

adds : (names : List Text) (before : List Given) (n v : Text) (next : List Given → Option (List Given)) → is_option names n ≡ true → has n before ≡ false →
    add names before n v next ≡ next (before ++ (n, v) ∷ [])
adds names before n v next known new = ap₂ (λ a b. cond (a && not b) (next (before ++ (n, v) ∷ [])) None) known new

one-more : (names : List Text) (before : List Given) (n v : Text) (more : List Given) (words : List Text) → is_option names n ≡ true → Once (before ++ (n, v) ∷ more) →
    given_from names (before ++ (n, v) ∷ []) None words ≡ Some ((before ++ (n, v) ∷ []) ++ more) →
    add names before n v (λ given. given_from names given None words) ≡ Some (before ++ (n, v) ∷ more)
one-more names before n v more words known once ih =
    adds names before n v (λ given. given_from names given None words) known (once-new before n v more once)
    ∙ ih ∙ ap Some (append_assoc before ((n, v) ∷ []) more)

written-read : (names : List Text) (before more : List Given) (parts : List (List Text)) → AreWritten more parts → list_all (λ p. is_option names p.0) more ≡ true →
    Once (before ++ more) → given_from names before None (flat_map (λ part. part) parts) ≡ Some (before ++ more)
written-read names before [] [] w known once = ap Some (sym (append-nil before))
written-read names before [] (part ∷ parts) w known once = absurd w
written-read names before (p ∷ more) [] w known once = absurd w
written-read names before (p ∷ more) ([] ∷ parts) w known once = absurd w.0
written-read names before ((n, v) ∷ more) ((word ∷ []) ∷ parts) w known once =
    let rest = flat_map (λ (part : List Text). part) parts in
    let each = both (is_option names n) (list_all (λ (p : Given). is_option names p.0) more) known in
    let again = subst Once (sym (append_assoc before ((n, v) ∷ []) more)) once in
    ap (on_word (λ name. given_from names before (Some name) rest) (λ name value. add names before name value (λ given. given_from names given None rest))) w.0
    ∙ one-more names before n v more rest each.0 once (written-read names (before ++ (n, v) ∷ []) more parts w.1 each.1 again)
written-read names before ((n, v) ∷ more) ((word ∷ value ∷ []) ∷ parts) w known once =
    let rest = flat_map (λ (part : List Text). part) parts in
    let each = both (is_option names n) (list_all (λ (p : Given). is_option names p.0) more) known in
    let again = subst Once (sym (append_assoc before ((n, v) ∷ []) more)) once in
    ap (on_word (λ name. given_from names before (Some name) (value ∷ rest)) (λ name text. add names before name text (λ given. given_from names given None (value ∷ rest)))) w.0.0
    ∙ ap (λ b. cond b None (add names before n value (λ given. given_from names given None rest))) w.0.2
    ∙ ap (λ (text : Text). add names before n text (λ given. given_from names given None rest)) w.0.1
    ∙ one-more names before n v more rest each.0 once (written-read names (before ++ (n, v) ∷ []) more parts w.1 each.1 again)
written-read names before (p ∷ more) ((word ∷ value ∷ next ∷ others) ∷ parts) w known once = absurd w.0

-- ---- both

pub options-exactly : (names words : List Text) (given : List Given) → (given_in names words ≡ Some given) ↔ AreOptions names words given
options-exactly names words given = (
  λ e.
      let r = (reads names words).idle [] given e (λ name. omega arith) in
      record {
        parts = r.parts;
        cut = r.cut;
        written = subst (λ (options : List Given). AreWritten options r.parts) (sym r.is) r.written;
        known = ap (list_all (λ (p : Given). is_option names p.0)) r.is ∙ r.known;
        once = r.once;
      },
  λ o. ap (given_in names) o.cut ∙ written-read names [] given o.parts o.written o.known o.once,
)
