-- The line of a level, and what comes after it.
use Rattle.std.proofs.Common.{◌≡◌, ◌∙◌, sym, ℕ, zero, suc, ◌+◌, ◌-◌, ◌<◌, ◌≤◌, ◌==◌, Bool, true, false, List, [], ◌∷◌, length, length-drop, take, drop, Some, None, refl, ap, subst, arith, if◌then◌else◌}
use Rattle.std.proofs.lemmas.Bool.Decides.{nat_tests}
use Rattle.std.specs.List.{position}
use Rattle.std.specs.Prelude.{All}
use Rattle.std.proofs.lemmas.List.{take_rest, drop-drop}
use Rattle.craft_settings.specs.Ranges.{SettingsFields}
use Rattle.prefix_fronts.specs.Prefix.{Prefix}
use Rattle.certificate_text.specs.Text.{line_end, in_front, parts, level_line}
use Rattle.certificate_text.specs.declared.numbers.TheConstants.{MOST_NUMBER}
use Rattle.certificate_text.proofs.Parts.{parts-at, parts-whole, position-less}
use Rattle.certificate_text.proofs.WordByWord.{from_on, parts-some}
use Rattle.certificate_laws.specs.Claims.{Claim}
use Rattle.certificate_laws.specs.Lines.{Place, heading, ending, after_level, after_row, Keeps, Reads, Breaks}
use Rattle.front_check.specs.Judging.{CanGoOn}
use Rattle.front_check.specs.Levels.{LeadsTo, AreKept, IsNextLevel}
use Rattle.front_check.proofs.Leading.{leads-none, leads-more, breaks-here}
use Rattle.front_check.proofs.Counting.{keeps-few, room-parts, keeps-kept, parts-long}
use Rattle.front_check.specs.declared.checker.TheConstants.{MOST_TEXT}

pub cut-first : (text : List ℕ) (end : ℕ) → position (λ byte. byte == line_end) text ≡ Some end → parts line_end text ≡ take end text ∷ parts line_end (from_on (end + 1) text)
cut-first text end found = parts-at line_end text end found ∙ ap (λ (l : List ℕ). take end text ∷ parts line_end l) (sym (take_rest text (end + 1)))

positive : (n : ℕ) → (n ≡ 0 → ⊥) → 0 < n
positive zero h = absurd (h refl)
positive (suc n) h = omega arith

nil : (l : List ℕ) → length l ≡ 0 → l ≡ []
nil [] h = refl
nil (x ∷ l) h = absurd (omega (arith, h))

front-not : (x : ℕ) (ps : List (List ℕ)) → in_front x ps ≡ [] ∷ [] → ⊥
front-not x [] h = cc
front-not x (p ∷ ps) h = cc

only-by : (b : Bool) (x : ℕ) (l : List ℕ) → 1 ≤ length (parts line_end l) → (if b then [] ∷ parts line_end l else in_front x (parts line_end l)) ≡ [] ∷ [] → x ∷ l ≡ []
only-by true x l some h = absurd (omega (arith, some, ap (λ (ps : List (List ℕ)). length ps) h))
only-by false x l some h = absurd (front-not x (parts line_end l) h)

only : (l : List ℕ) → parts line_end l ≡ [] ∷ [] → l ≡ []
only [] h = refl
only (x ∷ l) h = only-by (x == line_end) x l (parts-some line_end l) h

after-end : (g : SettingsFields) (claim : Claim) (lines : List (List ℕ)) → 1 ≤ length lines → (lines ≡ [] ∷ [] → ⊥) → Breaks g (ending claim) lines 0
after-end g claim [] some more = absurd (omega (arith, some))
after-end g claim (rest ∷ []) some more = (refl, λ actions h. more (ap (λ (l : List ℕ). l ∷ []) h.0))
after-end g claim (line ∷ next ∷ later) some more = λ after h. h

pub no-line : (g : SettingsFields) (claim : Claim) (level : ℕ) (kept : List Prefix) (text : List ℕ) → position (λ byte. byte == line_end) text ≡ None → Breaks g (heading claim level kept) (parts line_end text) 0
no-line g claim level kept text none =
    subst (λ (ls : List (List ℕ)). Breaks g (heading claim level kept) ls 0) (sym (parts-whole line_end text none)) (refl, λ actions h. h)

pub other-line : (g : SettingsFields) (claim : Claim) (level : ℕ) (kept : List Prefix) (text : List ℕ) (end : ℕ) → position (λ byte. byte == line_end) text ≡ Some end → (take end text ≡ level_line level (length kept) → ⊥) → Breaks g (heading claim level kept) (parts line_end text) 0
other-line g claim level kept text end found other =
    subst (λ (ls : List (List ℕ)). Breaks g (heading claim level kept) ls 0) (sym (cut-first text end found))
    (breaks-here g (heading claim level kept) (take end text) (parts line_end (from_on (end + 1) text)) (parts-some line_end (from_on (end + 1) text)) (λ after h. other h.1.0))

pub head-leads : (g : SettingsFields) (claim : Claim) (level : ℕ) (kept next : List Prefix) (text : List ℕ) (end : ℕ) → position (λ byte. byte == line_end) text ≡ Some end → take end text ≡ level_line level (length kept) →
    Keeps claim.g kept (parts line_end (from_on (end + 1) text)) next → LeadsTo g (heading claim level kept) (parts line_end text) (after_level claim level kept next) (parts line_end (from_on (end + 1) text)) 1
head-leads g claim level kept next text end found says keeps =
    leads-more g (heading claim level kept) (heading claim level kept) (after_level claim level kept next) (parts line_end text) (parts line_end (from_on (end + 1) text)) (take end text) 0
    (subst (λ (ls : List (List ℕ)). LeadsTo g (heading claim level kept) (parts line_end text) (heading claim level kept) ls 0) (cut-first text end found) (leads-none g (heading claim level kept) (parts line_end text)))
    (next, (says, keeps, refl))

pub last-reads : (g : SettingsFields) (claim : Claim) (level : ℕ) (kept : List Prefix) (text : List ℕ) (end : ℕ) → position (λ byte. byte == line_end) text ≡ Some end → take end text ≡ level_line level (length kept) → length kept ≡ 0 →
    length (from_on (end + 1) text) ≡ 0 → Reads g (heading claim level kept) (parts line_end text) claim.actions
last-reads g claim level [] text end found says none empty =
    (head-leads g claim level [] [] text end found says refl).reads claim.actions
    (subst (λ (l : List ℕ). Reads g (ending claim) (parts line_end l) claim.actions) (sym (nil (from_on (end + 1) text) empty)) (refl, refl))
last-reads g claim level (p ∷ kept) text end found says none empty = absurd (omega (arith, none))

pub last-more : (g : SettingsFields) (claim : Claim) (level : ℕ) (kept : List Prefix) (text : List ℕ) (end : ℕ) → position (λ byte. byte == line_end) text ≡ Some end → take end text ≡ level_line level (length kept) → length kept ≡ 0 →
    (length (from_on (end + 1) text) ≡ 0 → ⊥) → Breaks g (heading claim level kept) (parts line_end text) 1
last-more g claim level [] text end found says none more =
    (head-leads g claim level [] [] text end found says refl).breaks 0 (after-end g claim (parts line_end (from_on (end + 1) text)) (parts-some line_end (from_on (end + 1) text)) (λ h. more (ap (λ (l : List ℕ). length l) (only (from_on (end + 1) text) h))))
last-more g claim level (p ∷ kept) text end found says none more = absurd (omega (arith, none))

-- rows to come
pub rows-lead : (g : SettingsFields) (claim : Claim) (level : ℕ) (kept next : List Prefix) (text : List ℕ) (end : ℕ) → position (λ byte. byte == line_end) text ≡ Some end → take end text ≡ level_line level (length kept) → (length kept ≡ 0 → ⊥) →
    Keeps claim.g kept (parts line_end (from_on (end + 1) text)) next → LeadsTo g (heading claim level kept) (parts line_end text) (after_row claim level kept next) (parts line_end (from_on (end + 1) text)) 1
rows-lead g claim level [] next text end found says some keeps = absurd (some refl)
rows-lead g claim level (p ∷ kept) next text end found says some keeps = head-leads g claim level (p ∷ kept) next text end found says keeps

pub breaks-less : (g : SettingsFields) (place : Place) (lines : List (List ℕ)) (n : ℕ) → Breaks g place lines n → n < length lines
breaks-less g place [] n h = absurd h
breaks-less g place (rest ∷ []) n h = omega (arith, h.0)
breaks-less g place (line ∷ more ∷ later) zero h = omega arith
breaks-less g place (line ∷ more ∷ later) (suc n) h = omega (arith, breaks-less g h.0 (more ∷ later) n h.1.1)

pub breaks-fit : (g : SettingsFields) (place : Place) (text : List ℕ) (n : ℕ) → Breaks g place (parts line_end text) n → n ≤ length text
breaks-fit g place text n h = omega (arith, breaks-less g place (parts line_end text) n h, parts-long line_end text)

pub rest-is : (text : List ℕ) (from : ℕ) → length (from_on from text) ≡ length text - from
rest-is text from = ap (λ (l : List ℕ). length l) (take_rest text from) ∙ length-drop from text

pub is_none : (n : ℕ) → true ≡ (n == 0) → n ≡ 0
is_none n h = grind (arith, nat_tests)

pub rest-long : (text : List ℕ) (from : ℕ) → length (from_on from text) ≤ length text
rest-long text from = omega (arith, ap (λ (l : List ℕ). length l) (take_rest text from), length-drop from text)

pub next-few : (g : SettingsFields) (kept next : List Prefix) (text : List ℕ) → length text ≤ MOST_TEXT → Keeps g kept (parts line_end text) next → length next ≤ MOST_NUMBER
next-few g kept next text small keeps = omega (arith, keeps-few g kept (parts line_end text) next keeps, room-parts line_end text)

pub kept-go : (g : SettingsFields) (level : ℕ) (kept : List Prefix) → AreKept g level kept → All (CanGoOn g) kept
kept-go g level kept all = λ k d inside. let one = all k d inside in record { within = one.begun.within; short = one.small }

pub leads-on : (g : SettingsFields) (start middle last : Place) (all some later : List (List ℕ)) (m n : ℕ) → LeadsTo g start all middle some m → LeadsTo g middle some last later n → LeadsTo g start all last later (n + m)
leads-on g start middle last all some later m n one two = record {
  reads = λ actions h. one.reads actions (two.reads actions h);
  breaks = λ k h. let e : k + n + m ≡ k + (n + m) = omega arith in subst (λ (i : ℕ). Breaks g start all i) e (one.breaks (k + n) (two.breaks k h));
}

pub next-long : (g : SettingsFields) (level : ℕ) (kept next coming : List Prefix) (text : List ℕ) → AreKept g level kept → Keeps g kept (parts line_end text) next → coming ≡ next → All (λ q. length q.actions ≡ level + 1) coming
next-long g level kept next coming text all keeps same =
    subst (λ (ps : List Prefix). All (λ q. length q.actions ≡ level + 1) ps) (sym same) (λ k d inside. (keeps-kept g level kept (parts line_end text) next all keeps k d inside).long)

pub coming-few : (g : SettingsFields) (kept next coming : List Prefix) (text : List ℕ) (from : ℕ) → length text ≤ MOST_TEXT → Keeps g kept (parts line_end (from_on from text)) next → coming ≡ next → length coming ≤ MOST_NUMBER
coming-few g kept next coming text from small keeps same =
    subst (λ (ps : List Prefix). length ps ≤ MOST_NUMBER) (sym same) (next-few g kept next (from_on from text) (omega (arith, rest-long text from, small)) keeps)

-- a row that breaks its rule
pub level-broken : (claim : Claim) (level : ℕ) (kept next : List Prefix) (text : List ℕ) (end place : ℕ) → position (λ byte. byte == line_end) text ≡ Some end → take end text ≡ level_line level (length kept) → (length kept ≡ 0 → ⊥) →
    Keeps claim.g kept (parts line_end (from_on (end + 1) text)) next → Breaks claim.g (after_row claim level kept next) (parts line_end (from_on (end + 1) text)) place → Breaks claim.g (heading claim level kept) (parts line_end text) (place + 1)
level-broken claim level kept next text end place found says some keeps broken = (rows-lead claim.g claim level kept next text end found says some keeps).breaks place broken

-- rows that all hold
pub level-whole : (claim : Claim) (level : ℕ) (kept next : List Prefix) (text : List ℕ) (end from : ℕ) → position (λ byte. byte == line_end) text ≡ Some end → take end text ≡ level_line level (length kept) → (length kept ≡ 0 → ⊥) →
    length text ≤ MOST_TEXT → AreKept claim.g level kept → Keeps claim.g kept (parts line_end (from_on (end + 1) text)) next → from ≤ length (from_on (end + 1) text) →
    LeadsTo claim.g (after_row claim level kept next) (parts line_end (from_on (end + 1) text)) (heading claim (level + 1) next) (parts line_end (drop from (from_on (end + 1) text))) (length kept) →
    IsNextLevel claim.g claim level kept text next (end + 1 + from)
level-whole claim level kept next text end from found says some small all keeps inside leads =
    let rest : from_on (end + 1) text ≡ drop (end + 1) text = take_rest text (end + 1) in
    let later : drop from (from_on (end + 1) text) ≡ drop (end + 1 + from) text = ap (λ (l : List ℕ). drop from l) rest ∙ drop-drop from (end + 1) text in
    record {
      some = positive (length kept) some;
      inside = omega (arith, position-less line_end text end found, inside, ap (λ (l : List ℕ). length l) rest, length-drop (end + 1) text);
      few = coming-few claim.g kept next next text (end + 1) small keeps refl;
      kept_next = keeps-kept claim.g level kept (parts line_end (from_on (end + 1) text)) next all keeps;
      leads = subst (λ (l : List ℕ). LeadsTo claim.g (heading claim level kept) (parts line_end text) (heading claim (level + 1) next) (parts line_end l) (length kept + 1)) later
          (leads-on claim.g (heading claim level kept) (after_row claim level kept next) (heading claim (level + 1) next) (parts line_end text) (parts line_end (from_on (end + 1) text)) _ 1 (length kept)
          (rows-lead claim.g claim level kept next text end found says some keeps) leads);
    }
