-- Looking ahead row by row.
use Rattle.std.proofs.Common.{◌≡◌, ◌∙◌, sym, ℕ, suc, ◌+◌, ◌-◌, ◌<◌, ◌≤◌, ◌==◌, Bool, true, false, inl, inr, List, [], ◌∷◌, ◌++◌, append_assoc, length, length-drop, map, take, drop, get_or, Some, None, refl, ap, subst, arith, if◌then◌else◌}
use Rattle.std.specs.List.{position}
use Rattle.std.proofs.Math.Seq.{drop-cons}
use Rattle.std.proofs.lemmas.List.{drop-drop, take_rest, append-nil, drop_all}
use Rattle.action_table.specs.declared.action.Action.{Action}
use Rattle.craft_settings.specs.Ranges.{SettingsFields}
use Rattle.prefix_fronts.specs.Prefix.{Prefix, extend}
use Rattle.certificate_text.specs.declared.verdict.Verdict.{Verdict}
use Rattle.certificate_text.specs.declared.verdict.Verdict.TheVariants.{Complete, Failed, Limited, Late, Dominated, Kept}
use Rattle.certificate_text.specs.Text.{line_end, parts}
use Rattle.certificate_text.specs.Reading.{as_read, IsNoRow, IsReadRow}
use Rattle.certificate_text.proofs.Parts.{parts-at, parts-whole, position-less}
use Rattle.certificate_text.proofs.WordByWord.{from_on}
use Rattle.certificate_laws.specs.Claims.{legal_after, is_kept, kept_of}
use Rattle.certificate_laws.specs.Lines.{Keeps}
use Rattle.front_check.specs.Judging.{IsPushed, kept_child}
use Rattle.step_rules.specs.Legality.{is_legal}
use Rattle.plain_lemmas.proofs.Lists.{Among}
use Rattle.certificate_laws.proofs.Rows.{among-legal}
use Rattle.plain_lemmas.proofs.Places.{Among-get_or}

-- what is kept by the rows that are left is kept after what was kept so far
pub record Going (g : SettingsFields) (kept : List Prefix) (text : List ℕ) (rest : List Prefix) (lines : List (List ℕ)) (next : List Prefix) : Type 0 where
  pub give : (later : List Prefix) → Keeps g rest lines later → Keeps g kept (parts line_end text) (next ++ later)

is_kept-read : (v : Verdict) → is_kept (as_read v) ≡ is_kept v
is_kept-read Complete = refl
is_kept-read Failed = refl
is_kept-read Limited = refl
is_kept-read Late = refl
is_kept-read (Dominated place) = refl
is_kept-read Kept = refl

kept_of-read : (g : SettingsFields) (p : Prefix) (actions : List Action) (row : List Verdict) → kept_of g p actions (map as_read row) ≡ kept_of g p actions row
kept_of-read g p [] row = refl
kept_of-read g p (a ∷ actions) [] = refl
kept_of-read g p (a ∷ actions) (v ∷ row) = rw (is_kept-read v, kept_of-read g p actions row) refl

pub going-start : (g : SettingsFields) (kept : List Prefix) (text : List ℕ) → Going g kept text kept (parts line_end (from_on 0 text)) []
going-start g kept text = record { give = λ later h. subst (λ (l : List ℕ). Keeps g kept (parts line_end l) later) (take_rest text 0) h }

keeps-nil : (g : SettingsFields) (kept : List Prefix) → Keeps g kept [] []
keeps-nil g [] = refl
keeps-nil g (p ∷ kept) = refl

going-row : (g : SettingsFields) (kept : List Prefix) (text : List ℕ) (p : Prefix) (rest next : List Prefix) (line : List ℕ) (lines : List (List ℕ)) (row : List Verdict) → Going g kept text (p ∷ rest) (line ∷ lines) next →
    IsReadRow line (length (legal_after g p)) row → Going g kept text rest lines (next ++ kept_of g p (legal_after g p) row)
going-row g kept text p rest next line lines row going read = record {
  give = λ later h.
      let same : kept_of g p (legal_after g p) row ≡ kept_of g p (legal_after g p) read.0 = ap (kept_of g p (legal_after g p)) read.1.2 ∙ kept_of-read g p (legal_after g p) read.0 in
      let seen : Keeps g (p ∷ rest) (line ∷ lines) (kept_of g p (legal_after g p) row ++ later) =
      inr (read.0, (later, (record { says = read.1.0; each = read.1.1 }, h, ap (λ (n : List Prefix). n ++ later) same))) in
      subst (λ (n : List Prefix). Keeps g kept (parts line_end text) n) (sym (append_assoc next (kept_of g p (legal_after g p) row) later)) (going.give _ seen);
}

pub going-stop : (g : SettingsFields) (kept : List Prefix) (text : List ℕ) (p : Prefix) (rest next : List Prefix) (line : List ℕ) (lines : List (List ℕ)) → Going g kept text (p ∷ rest) (line ∷ lines) next →
    IsNoRow line (length (legal_after g p)) → Keeps g kept (parts line_end text) next
going-stop g kept text p rest next line lines going none =
    subst (λ (n : List Prefix). Keeps g kept (parts line_end text) n) (append-nil next) (going.give [] (inl (λ verdicts fits. none verdicts fits.says fits.each, refl)))

pub going-end : (g : SettingsFields) (kept : List Prefix) (text : List ℕ) (rest next : List Prefix) (lines : List (List ℕ)) → Going g kept text rest lines next → Keeps g rest lines [] → Keeps g kept (parts line_end text) next
going-end g kept text rest next lines going h = subst (λ (n : List Prefix). Keeps g kept (parts line_end text) n) (append-nil next) (going.give [] h)

-- the first of the rows that are left, by the place of its end
more-text : (text : List ℕ) (from end : ℕ) → drop (end + 1) (from_on from text) ≡ from_on (from + (end + 1)) text
more-text text from end = ap (λ (l : List ℕ). drop (end + 1) l) (take_rest text from) ∙ drop-drop (end + 1) from text ∙ sym (take_rest text (from + (end + 1)))

pub cut-text : (text : List ℕ) (from end : ℕ) → position (λ byte. byte == line_end) (from_on from text) ≡ Some end →
    parts line_end (from_on from text) ≡ take end (from_on from text) ∷ parts line_end (from_on (from + (end + 1)) text)
cut-text text from end found = parts-at line_end (from_on from text) end found ∙ ap (λ (l : List ℕ). take end (from_on from text) ∷ parts line_end l) (more-text text from end)

pub ahead-inside : (text : List ℕ) (from end : ℕ) → from ≤ length text → position (λ byte. byte == line_end) (from_on from text) ≡ Some end → from + (end + 1) ≤ length text
ahead-inside text from end inside h =
    let less = position-less line_end (from_on from text) end h in
    let long : length (from_on from text) ≡ length text - from = ap (λ (l : List ℕ). length l) (take_rest text from) ∙ length-drop from text in
    omega (arith, less, long, inside)

-- where these are left from a place on, the first is that of the place
abbrev Rest : SettingsFields → List Prefix → List ℕ → ℕ → ℕ → List Prefix → Type 0
Rest g kept text place from next = Going g kept text (drop place kept) (parts line_end (from_on from text)) next

opened : (g : SettingsFields) (kept : List Prefix) (text : List ℕ) (place from : ℕ) (p : Prefix) (next : List Prefix) (lines : List (List ℕ)) → place < length kept → p ≡ get_or kept place p → parts line_end (from_on from text) ≡ lines →
    Rest g kept text place from next → Going g kept text (p ∷ drop (place + 1) kept) lines next
opened g kept text place from p next lines inside is cut going =
    let one : suc place ≡ place + 1 = omega arith in
    let e : drop place kept ≡ p ∷ drop (place + 1) kept = drop-cons kept place p inside ∙ ap (λ (q : Prefix). q ∷ drop (suc place) kept) (sym is) ∙ ap (λ (n : ℕ). p ∷ drop n kept) one in
    subst (λ (ls : List (List ℕ)). Going g kept text (p ∷ drop (place + 1) kept) ls next) cut (subst (λ (ps : List Prefix). Going g kept text ps (parts line_end (from_on from text)) next) e going)

pub rest-next : (g : SettingsFields) (kept : List Prefix) (text : List ℕ) (place from end : ℕ) (p : Prefix) (next : List Prefix) (row : List Verdict) → place < length kept → p ≡ get_or kept place p →
    position (λ byte. byte == line_end) (from_on from text) ≡ Some end → Rest g kept text place from next → IsReadRow (take end (from_on from text)) (length (legal_after g p)) row →
    Rest g kept text (place + 1) (from + (end + 1)) (next ++ kept_of g p (legal_after g p) row)
rest-next g kept text place from end p next row inside is found going read =
    going-row g kept text p (drop (place + 1) kept) next _ _ row (opened g kept text place from p next _ inside is (cut-text text from end found) going) read

pub rest-stop : (g : SettingsFields) (kept : List Prefix) (text : List ℕ) (place from end : ℕ) (p : Prefix) (next : List Prefix) → place < length kept → p ≡ get_or kept place p →
    position (λ byte. byte == line_end) (from_on from text) ≡ Some end → Rest g kept text place from next → IsNoRow (take end (from_on from text)) (length (legal_after g p)) →
    Keeps g kept (parts line_end text) next
rest-stop g kept text place from end p next inside is found going none =
    going-stop g kept text p (drop (place + 1) kept) next _ _ (opened g kept text place from p next _ inside is (cut-text text from end found) going) none

pub rest-last : (g : SettingsFields) (kept : List Prefix) (text : List ℕ) (place from : ℕ) (p : Prefix) (next : List Prefix) (row : List Verdict) → place < length kept → p ≡ get_or kept place p →
    position (λ byte. byte == line_end) (from_on from text) ≡ None → Rest g kept text place from next → IsReadRow (from_on from text) (length (legal_after g p)) row →
    Keeps g kept (parts line_end text) (next ++ kept_of g p (legal_after g p) row)
rest-last g kept text place from p next row inside is found going read =
    going-end g kept text (drop (place + 1) kept) _ [] (going-row g kept text p (drop (place + 1) kept) next _ _ row (opened g kept text place from p next _ inside is (parts-whole line_end (from_on from text) found) going) read) (keeps-nil g (drop (place + 1) kept))

pub rest-last_stop : (g : SettingsFields) (kept : List Prefix) (text : List ℕ) (place from : ℕ) (p : Prefix) (next : List Prefix) → place < length kept → p ≡ get_or kept place p →
    position (λ byte. byte == line_end) (from_on from text) ≡ None → Rest g kept text place from next → IsNoRow (from_on from text) (length (legal_after g p)) →
    Keeps g kept (parts line_end text) next
rest-last_stop g kept text place from p next inside is found going none =
    going-stop g kept text p (drop (place + 1) kept) next _ _ (opened g kept text place from p next _ inside is (parts-whole line_end (from_on from text) found) going) none

pub rest-done : (g : SettingsFields) (kept : List Prefix) (text : List ℕ) (place from : ℕ) (next : List Prefix) → length kept ≤ place → Rest g kept text place from next → Keeps g kept (parts line_end text) next
rest-done g kept text place from next all going =
    going-end g kept text [] next _ (subst (λ (ps : List Prefix). Going g kept text ps (parts line_end (from_on from text)) next) (drop_all place kept all) going) refl

-- the same where the line's prefixes were added
pub pushed-next : (g : SettingsFields) (kept : List Prefix) (text : List ℕ) (place from end : ℕ) (p : Prefix) (next new : List Prefix) (fits : Bool) → place < length kept → p ≡ get_or kept place p →
    position (λ byte. byte == line_end) (from_on from text) ≡ Some end → Rest g kept text place from next → IsPushed g p (take end (from_on from text)) next new fits → fits ≡ true →
    Rest g kept text (place + 1) (from + (end + 1)) new
pushed-next g kept text place from end p next new true inside at found going h e =
    subst (λ (n : List Prefix). Rest g kept text (place + 1) (from + (end + 1)) n) (sym h.1.1) (rest-next g kept text place from end p next h.0 inside at found going h.1.0)
pushed-next g kept text place from end p next new false inside at found going h e = cc

pub pushed-stop : (g : SettingsFields) (kept : List Prefix) (text : List ℕ) (place from end : ℕ) (p : Prefix) (next new : List Prefix) (fits : Bool) → place < length kept → p ≡ get_or kept place p →
    position (λ byte. byte == line_end) (from_on from text) ≡ Some end → Rest g kept text place from next → IsPushed g p (take end (from_on from text)) next new fits → fits ≡ false →
    Keeps g kept (parts line_end text) new
pushed-stop g kept text place from end p next new true inside at found going h e = cc
pushed-stop g kept text place from end p next new false inside at found going h e =
    subst (λ (n : List Prefix). Keeps g kept (parts line_end text) n) (sym h.1) (rest-stop g kept text place from end p next inside at found going h.0)

pub pushed-last : (g : SettingsFields) (kept : List Prefix) (text : List ℕ) (place from : ℕ) (p : Prefix) (next new : List Prefix) (fits : Bool) → place < length kept → p ≡ get_or kept place p →
    position (λ byte. byte == line_end) (from_on from text) ≡ None → Rest g kept text place from next → IsPushed g p (from_on from text) next new fits →
    Keeps g kept (parts line_end text) new
pushed-last g kept text place from p next new true inside at found going h =
    subst (λ (n : List Prefix). Keeps g kept (parts line_end text) n) (sym h.1.1) (rest-last g kept text place from p next h.0 inside at found going h.1.0)
pushed-last g kept text place from p next new false inside at found going h =
    subst (λ (n : List Prefix). Keeps g kept (parts line_end text) n) (sym h.1) (rest-last_stop g kept text place from p next inside at found going h.0)

-- one action more of a row
kept-open : (g : SettingsFields) (p : Prefix) (actions : List Action) (row : List Verdict) (i : ℕ) (a : Action) (v : Verdict) → i < length actions → i < length row →
    kept_of g p (drop i actions) (drop i row) ≡ (if is_kept (get_or row i v) then extend g p (get_or actions i a) ∷ kept_of g p (drop (i + 1) actions) (drop (i + 1) row) else kept_of g p (drop (i + 1) actions) (drop (i + 1) row))
kept-open g p actions row i a v inside inside' =
    let one : suc i ≡ i + 1 = omega arith in
    let e : drop i actions ≡ get_or actions i a ∷ drop (i + 1) actions = drop-cons actions i a inside ∙ ap (λ (n : ℕ). get_or actions i a ∷ drop n actions) one in
    let f : drop i row ≡ get_or row i v ∷ drop (i + 1) row = drop-cons row i v inside' ∙ ap (λ (n : ℕ). get_or row i v ∷ drop n row) one in
    ap (λ (l : List Action). kept_of g p l (drop i row)) e ∙ ap (λ (l : List Verdict). kept_of g p (get_or actions i a ∷ drop (i + 1) actions) l) f

joined : (b : Bool) (x : Prefix) (next rest : List Prefix) → (next ++ (if b then x ∷ [] else [])) ++ rest ≡ next ++ (if b then x ∷ rest else rest)
joined true x next rest = append_assoc next (x ∷ []) rest
joined false x next rest = ap (λ (l : List Prefix). l ++ rest) (append-nil next)

pub kept-step : (g : SettingsFields) (p : Prefix) (actions : List Action) (row : List Verdict) (i : ℕ) (a : Action) (v : Verdict) (next new out : List Prefix) → i < length actions → i < length row →
    new ≡ next ++ kept_child g p (get_or actions i a) (get_or row i v) → next ++ kept_of g p (drop i actions) (drop i row) ≡ out → new ++ kept_of g p (drop (i + 1) actions) (drop (i + 1) row) ≡ out
kept-step g p actions row i a v next new out inside inside' more h =
    ap (λ (l : List Prefix). l ++ kept_of g p (drop (i + 1) actions) (drop (i + 1) row)) more
    ∙ joined (is_kept (get_or row i v)) (extend g p (get_or actions i a)) next (kept_of g p (drop (i + 1) actions) (drop (i + 1) row))
    ∙ ap (λ (l : List Prefix). next ++ l) (sym (kept-open g p actions row i a v inside inside')) ∙ h

-- what a line that was read adds
pub pushed-by : (g : SettingsFields) (p : Prefix) (line : List ℕ) (old new : List Prefix) (count : ℕ) (actions : List Action) (row : List Verdict) → count ≡ length actions → actions ≡ legal_after g p →
    IsReadRow line count row → new ≡ old ++ kept_of g p actions row → IsPushed g p line old new true
pushed-by g p line old new count actions row long same read more =
    (row, (subst (λ (n : ℕ). IsReadRow line n row) (long ∙ ap (λ (l : List Action). length l) same) read, more ∙ ap (λ (l : List Action). old ++ kept_of g p l row) same))

pub pushed-none : (g : SettingsFields) (p : Prefix) (line : List ℕ) (old new : List Prefix) (count : ℕ) (actions : List Action) → count ≡ length actions → actions ≡ legal_after g p →
    IsNoRow line count → new ≡ old → IsPushed g p line old new false
pushed-none g p line old new count actions long same none more =
    (subst (λ (n : ℕ). IsNoRow line n) (long ∙ ap (λ (l : List Action). length l) same) none, more)

pub all-legal : (g : SettingsFields) (p : Prefix) (actions : List Action) → actions ≡ legal_after g p → (k : ℕ) (d : Action) → k < length actions → is_legal g p.state (get_or actions k d) ≡ true
all-legal g p actions same k d inside =
    let here : Among (get_or actions k d) (legal_after g p) = subst (λ (l : List Action). Among (get_or actions k d) l) same (Among-get_or actions k d inside) in
    among-legal g p.state (get_or actions k d) here
