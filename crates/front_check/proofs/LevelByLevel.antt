-- Judging level by level.
use Rattle.std.proofs.Common.{◌≡◌, ◌∙◌, sym, ℕ, zero, suc, ◌+◌, ◌<◌, ◌≤◌, List, [], ◌∷◌, length, drop, refl, ap, subst, arith}
use Rattle.std.proofs.lemmas.List.{take_rest, drop-drop}
use Rattle.craft_settings.specs.Ranges.{SettingsFields, AreSettings}
use Rattle.step_rules.proofs.Bounds.{IsWithin-start}
use Rattle.prefix_fronts.specs.Prefix.{Prefix, empty_prefix}
use Rattle.certificate_text.specs.Text.{line_end, parts}
use Rattle.certificate_text.proofs.WordByWord.{from_on}
use Rattle.certificate_laws.specs.Claims.{Claim}
use Rattle.certificate_laws.specs.Lines.{Place, heading, Breaks}
use Rattle.front_check.specs.Levels.{LeadsTo, IsKeptAt, AreKept, IsNextLevel}
use Rattle.front_check.proofs.Leading.{leads-none}
use Rattle.front_check.proofs.FromLevel.{leads-on, rest-is}

empty-kept : (g : SettingsFields) → AreSettings g → IsKeptAt g 0 (empty_prefix g)
empty-kept g settings = record {
  begun = record { within = IsWithin-start g settings; ran = refl; seconds = refl; short = omega arith };
  small = omega arith;
  long = refl;
}

all-one : (g : SettingsFields) (p : Prefix) → IsKeptAt g 0 p → AreKept g 0 (p ∷ [])
all-one g p h zero d inside = h
all-one g p h (suc k) d inside = absurd (omega (arith, inside))

pub start-kept : (g : SettingsFields) (kept : List Prefix) → AreSettings g → kept ≡ empty_prefix g ∷ [] → AreKept g 0 kept
start-kept g kept settings is = subst (λ (ps : List Prefix). AreKept g 0 ps) (sym is) (all-one g (empty_prefix g) (empty-kept g settings))

pub start-leads : (claim : Claim) (kept : List Prefix) (text : List ℕ) → kept ≡ empty_prefix claim.g ∷ [] →
    LeadsTo claim.g (heading claim 0 (empty_prefix claim.g ∷ [])) (parts line_end text) (heading claim 0 kept) (parts line_end (from_on 0 text)) 0
start-leads claim kept text is =
    subst (λ (ps : List Prefix). LeadsTo claim.g (heading claim 0 (empty_prefix claim.g ∷ [])) (parts line_end text) (heading claim 0 ps) (parts line_end (from_on 0 text)) 0) (sym is)
    (subst (λ (l : List ℕ). LeadsTo claim.g (heading claim 0 (empty_prefix claim.g ∷ [])) (parts line_end text) (heading claim 0 (empty_prefix claim.g ∷ [])) (parts line_end l) 0) (sym (take_rest text 0))
    (leads-none claim.g (heading claim 0 (empty_prefix claim.g ∷ [])) (parts line_end text)))

-- a level that has kept prefixes isn't past the longest macros
pub low-level : (g : SettingsFields) (level : ℕ) (kept : List Prefix) → AreKept g level kept → 0 < length kept → level ≤ 272
low-level g level [] all some = absurd (omega (arith, some))
low-level g level (p ∷ kept) all some = let first = all 0 p (omega arith) in omega (arith, first.long, first.begun.short)

pub passed-inside : (text : List ℕ) (from passed : ℕ) → from ≤ length text → passed ≤ length (from_on from text) → from + passed ≤ length text
passed-inside text from passed inside within = omega (arith, rest-is text from, inside, within)

pub level-leads : (claim : Claim) (start : Place) (level : ℕ) (kept next : List Prefix) (text : List ℕ) (from passed lines count : ℕ) → count ≡ length kept →
    LeadsTo claim.g start (parts line_end text) (heading claim level kept) (parts line_end (from_on from text)) lines → IsNextLevel claim.g claim level kept (from_on from text) next passed →
    LeadsTo claim.g start (parts line_end text) (heading claim (level + 1) next) (parts line_end (from_on (from + passed) text)) (lines + (count + 1))
level-leads claim start level kept next text from passed lines count is leads more =
    let rest : drop passed (from_on from text) ≡ from_on (from + passed) text = ap (λ (l : List ℕ). drop passed l) (take_rest text from) ∙ drop-drop passed from text ∙ sym (take_rest text (from + passed)) in
    let sum : length kept + 1 + lines ≡ lines + (count + 1) = omega (arith, is) in
    subst (λ (n : ℕ). LeadsTo claim.g start (parts line_end text) (heading claim (level + 1) next) (parts line_end (from_on (from + passed) text)) n) sum
    (subst (λ (l : List ℕ). LeadsTo claim.g start (parts line_end text) (heading claim (level + 1) next) (parts line_end l) (length kept + 1 + lines)) rest
    (leads-on claim.g start (heading claim level kept) (heading claim (level + 1) next) (parts line_end text) (parts line_end (from_on from text)) (parts line_end (drop passed (from_on from text))) lines (length kept + 1) leads more.leads))

pub level-breaks : (claim : Claim) (start place : Place) (all rest : List (List ℕ)) (lines n : ℕ) → LeadsTo claim.g start all place rest lines → Breaks claim.g place rest n → Breaks claim.g start all (lines + n)
level-breaks claim start place all rest lines n leads broken =
    let sum : n + lines ≡ lines + n = omega arith in
    subst (λ (i : ℕ). Breaks claim.g start all i) sum (leads.breaks n broken)
