-- Lines that lead on.
use Rattle.std.proofs.Common.{◌≡◌, ◌∙◌, sym, ℕ, suc, ◌+◌, ◌<◌, ◌≤◌, ◌==◌, List, [], ◌∷◌, length, take, drop, get_or, Some, None, refl, ap, subst, arith}
use Rattle.std.specs.List.{position}
use Rattle.std.proofs.Math.Seq.{drop-cons}
use Rattle.std.proofs.lemmas.List.{drop_all, take_rest}
use Rattle.craft_settings.specs.Ranges.{SettingsFields}
use Rattle.prefix_fronts.specs.Prefix.{Prefix}
use Rattle.certificate_text.specs.Text.{line_end, parts}
use Rattle.certificate_text.proofs.Parts.{parts-whole}
use Rattle.certificate_text.proofs.WordByWord.{from_on, parts-some}
use Rattle.certificate_laws.specs.Claims.{Claim}
use Rattle.certificate_laws.specs.Lines.{Place, heading, judging, after_row, Obeys, Breaks}
use Rattle.front_check.specs.Judging.{RowObeys}
use Rattle.front_check.specs.Levels.{LeadsTo}
use Rattle.certificate_laws.proofs.Writing.{reads-step}
use Rattle.front_check.proofs.RowByRow.{cut-text}

pub leads-none : (g : SettingsFields) (place : Place) (lines : List (List ℕ)) → LeadsTo g place lines place lines 0
leads-none g place lines = record { reads = λ actions h. h; breaks = λ n h. let e : n ≡ n + 0 = omega arith in subst (λ (i : ℕ). Breaks g place lines i) e h }

pub breaks-step : (g : SettingsFields) (place after : Place) (line : List ℕ) (lines : List (List ℕ)) (n : ℕ) → Obeys g place line lines after → Breaks g after lines n → Breaks g place (line ∷ lines) (suc n)
breaks-step g place after line [] n obeys rest = absurd rest
breaks-step g place after line (more ∷ later) n obeys rest = (after, (obeys, rest))

-- one line more
pub leads-more : (g : SettingsFields) (start place after : Place) (all later : List (List ℕ)) (line : List ℕ) (count : ℕ) → LeadsTo g start all place (line ∷ later) count → Obeys g place line later after → LeadsTo g start all after later (count + 1)
leads-more g start place after all later line count leads obeys = record {
  reads = λ actions h. leads.reads actions (reads-step g place after line later actions obeys h);
  breaks = λ n h. let e : suc n + count ≡ n + (count + 1) = omega arith in subst (λ (i : ℕ). Breaks g start all i) e (leads.breaks (suc n) (breaks-step g place after line later n obeys h));
}

pub breaks-here : (g : SettingsFields) (place : Place) (line : List ℕ) (later : List (List ℕ)) → 1 ≤ length later → ((after : Place) → Obeys g place line later after → ⊥) → Breaks g place (line ∷ later) 0
breaks-here g place line [] some none = absurd (omega (arith, some))
breaks-here g place line (more ∷ later) some none = none

-- the first line breaks its rule
leads-break : (g : SettingsFields) (start place : Place) (all lines : List (List ℕ)) (count : ℕ) → LeadsTo g start all place lines count → Breaks g place lines 0 → Breaks g start all count
leads-break g start place all lines count leads here = let e : 0 + count ≡ count = omega arith in subst (λ (i : ℕ). Breaks g start all i) e (leads.breaks 0 here)

-- where the rows from a place on are left
abbrev pub RowsLeft : SettingsFields → Claim → ℕ → List Prefix → List Prefix → List ℕ → ℕ → ℕ → Type 0
RowsLeft g claim level kept next text place from =
    LeadsTo g (after_row claim level kept next) (parts line_end text) (after_row claim level (drop place kept) next) (parts line_end (from_on from text)) place

opened : (g : SettingsFields) (claim : Claim) (level : ℕ) (kept next : List Prefix) (text : List ℕ) (place from : ℕ) (p : Prefix) (lines : List (List ℕ)) → place < length kept → p ≡ get_or kept place p → parts line_end (from_on from text) ≡ lines →
    RowsLeft g claim level kept next text place from → LeadsTo g (after_row claim level kept next) (parts line_end text) (judging claim level (p ∷ drop (place + 1) kept) next) lines place
opened g claim level kept next text place from p lines inside is cut leads =
    let one : suc place ≡ place + 1 = omega arith in
    let e : drop place kept ≡ p ∷ drop (place + 1) kept = drop-cons kept place p inside ∙ ap (λ (q : Prefix). q ∷ drop (suc place) kept) (sym is) ∙ ap (λ (n : ℕ). p ∷ drop n kept) one in
    subst (λ (ls : List (List ℕ)). LeadsTo g (after_row claim level kept next) (parts line_end text) (judging claim level (p ∷ drop (place + 1) kept) next) ls place) cut
    (subst (λ (ps : List Prefix). LeadsTo g (after_row claim level kept next) (parts line_end text) (after_row claim level ps next) (parts line_end (from_on from text)) place) e leads)

pub row-good : (g : SettingsFields) (claim : Claim) (level : ℕ) (kept next : List Prefix) (text : List ℕ) (place from end : ℕ) (p : Prefix) → place < length kept → p ≡ get_or kept place p → position (λ byte. byte == line_end) (from_on from text) ≡ Some end →
    RowsLeft g claim level kept next text place from → RowObeys claim next p (take end (from_on from text)) → RowsLeft g claim level kept next text (place + 1) (from + (end + 1))
row-good g claim level kept next text place from end p inside is found leads row =
    leads-more g (after_row claim level kept next) (judging claim level (p ∷ drop (place + 1) kept) next) (after_row claim level (drop (place + 1) kept) next) (parts line_end text) _ _ place
    (opened g claim level kept next text place from p _ inside is (cut-text text from end found) leads) (row.0, (row.1.0, row.1.1, refl))

pub row-broken : (g : SettingsFields) (claim : Claim) (level : ℕ) (kept next : List Prefix) (text : List ℕ) (place from end : ℕ) (p : Prefix) → place < length kept → p ≡ get_or kept place p → position (λ byte. byte == line_end) (from_on from text) ≡ Some end →
    RowsLeft g claim level kept next text place from → (RowObeys claim next p (take end (from_on from text)) → ⊥) → Breaks g (after_row claim level kept next) (parts line_end text) place
row-broken g claim level kept next text place from end p inside is found leads bad =
    leads-break g (after_row claim level kept next) (judging claim level (p ∷ drop (place + 1) kept) next) (parts line_end text) _ place
    (opened g claim level kept next text place from p _ inside is (cut-text text from end found) leads)
    (breaks-here g (judging claim level (p ∷ drop (place + 1) kept) next) _ _ (parts-some line_end (from_on (from + (end + 1)) text)) (λ after h. bad (h.0, (h.1.0, h.1.1))))

pub row-missing : (g : SettingsFields) (claim : Claim) (level : ℕ) (kept next : List Prefix) (text : List ℕ) (place from : ℕ) (p : Prefix) → place < length kept → p ≡ get_or kept place p → position (λ byte. byte == line_end) (from_on from text) ≡ None →
    RowsLeft g claim level kept next text place from → Breaks g (after_row claim level kept next) (parts line_end text) place
row-missing g claim level kept next text place from p inside is found leads =
    leads-break g (after_row claim level kept next) (judging claim level (p ∷ drop (place + 1) kept) next) (parts line_end text) _ place
    (opened g claim level kept next text place from p _ inside is (parts-whole line_end (from_on from text) found) leads) (refl, λ actions h. h)

pub rows-start : (g : SettingsFields) (claim : Claim) (level : ℕ) (kept next : List Prefix) (text : List ℕ) → RowsLeft g claim level kept next text 0 0
rows-start g claim level kept next text =
    subst (λ (l : List ℕ). LeadsTo g (after_row claim level kept next) (parts line_end text) (after_row claim level kept next) (parts line_end l) 0) (sym (take_rest text 0)) (leads-none g (after_row claim level kept next) (parts line_end text))

pub rows-done : (g : SettingsFields) (claim : Claim) (level : ℕ) (kept next : List Prefix) (text : List ℕ) (place from : ℕ) → place ≡ length kept → RowsLeft g claim level kept next text place from →
    LeadsTo g (after_row claim level kept next) (parts line_end text) (heading claim (level + 1) next) (parts line_end (drop from text)) (length kept)
rows-done g claim level kept next text place from all leads =
    let none : drop place kept ≡ [] = drop_all place kept (omega (arith, all)) in
    subst (λ (n : ℕ). LeadsTo g (after_row claim level kept next) (parts line_end text) (heading claim (level + 1) next) (parts line_end (drop from text)) n) all
    (subst (λ (l : List ℕ). LeadsTo g (after_row claim level kept next) (parts line_end text) (heading claim (level + 1) next) (parts line_end l) place) (take_rest text from)
    (subst (λ (ps : List Prefix). LeadsTo g (after_row claim level kept next) (parts line_end text) (after_row claim level ps next) (parts line_end (from_on from text)) place) none leads))
