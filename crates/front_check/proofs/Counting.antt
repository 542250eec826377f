-- What look-ahead keeps is of the next level, and no more than the text has room for.
use Rattle.std.proofs.Common.{◌≡◌, sym, ℕ, suc, ◌+◌, ◌*◌, ◌≤◌, ◌==◌, Bool, true, false, ◌⊎◌, inl, inr, List, [], ◌∷◌, length, length-append, refl, ap, subst, arith, if◌then◌else◌}
use Rattle.action_table.specs.declared.action.Action.{Action}
use Rattle.craft_settings.specs.Ranges.{SettingsFields}
use Rattle.step_rules.specs.Legality.{is_legal}
use Rattle.macro_order.specs.Order.{seconds_of}
use Rattle.action_table.proofs.Seconds.{seconds_small}
use Rattle.prefix_fronts.specs.Prefix.{Prefix, extend}
use Rattle.plain_lemmas.proofs.Lists.{Among, Among-append_cases}
use Rattle.certificate_text.specs.declared.verdict.Verdict.{Verdict}
use Rattle.certificate_text.specs.Text.{space, in_front, parts, IsRow}
use Rattle.certificate_text.proofs.WordByWord.{all-say-long, parts-some}
use Rattle.certificate_laws.specs.Claims.{legal_after, is_kept, kept_of}
use Rattle.certificate_laws.specs.Lines.{Keeps}
use Rattle.front_check.specs.Levels.{IsKeptAt, AreKept}
use Rattle.certificate_laws.proofs.Rows.{among-legal}
use Rattle.front_check.proofs.RowJudged.{child-begun, child-long}
use Rattle.plain_lemmas.proofs.Places.{Among-All, All-Among}

seconds-short : (m : List Action) → seconds_of m ≤ 3 * length m
seconds-short [] = omega arith
seconds-short (a ∷ m) = omega (arith, seconds_small a, seconds-short m)

-- a prefix that a row keeps
record KeptChild (g : SettingsFields) (p c : Prefix) : Type 0 where
  pub action : Action
  pub legal : is_legal g p.state action ≡ true
  pub is : c ≡ extend g p action

cases : (b : Bool) (p q : Prefix) (ps : List Prefix) → Among p (if b then q ∷ ps else ps) → (q ≡ p) ⊎ Among p ps
cases true p q ps h = h
cases false p q ps h = inr h

kept-child : (g : SettingsFields) (p c : Prefix) (actions : List Action) (row : List Verdict) → ((a : Action) → Among a actions → is_legal g p.state a ≡ true) → Among c (kept_of g p actions row) → KeptChild g p c
kept-child g p c [] row legal here = absurd here
kept-child g p c (a ∷ actions) [] legal here = absurd here
kept-child g p c (a ∷ actions) (v ∷ row) legal here = elim (cases (is_kept v) c (extend g p a) (kept_of g p actions row) here) [
  | inl same ↦ record { action = a; legal = legal a (inl refl); is = sym same }
  | inr later ↦ kept-child g p c actions row (λ b among. legal b (inr among)) later
]

child-kept : (g : SettingsFields) (level : ℕ) (p c : Prefix) → IsKeptAt g level p → KeptChild g p c → IsKeptAt g (level + 1) c
child-kept g level p c kept child =
    let begun = child-begun g p c child.action kept.begun child.legal child.is in
    let long : length c.actions ≡ level + 1 = omega (arith, child-long g p c child.action child.is, kept.long) in
    record { begun = begun; small = omega (arith, begun.seconds, seconds-short c.actions, begun.short); long = long }

keeps-each : (g : SettingsFields) (level : ℕ) (kept : List Prefix) (lines : List (List ℕ)) (next : List Prefix) → ((p : Prefix) → Among p kept → IsKeptAt g level p) → Keeps g kept lines next → (c : Prefix) → Among c next → IsKeptAt g (level + 1) c
keeps-each g level [] lines next each keeps c here = absurd (subst (λ (ps : List Prefix). Among c ps) keeps here)
keeps-each g level (p ∷ kept) [] next each keeps c here = absurd (subst (λ (ps : List Prefix). Among c ps) keeps here)
keeps-each g level (p ∷ kept) (line ∷ lines) next each (inl none) c here = absurd (subst (λ (ps : List Prefix). Among c ps) none.1 here)
keeps-each g level (p ∷ kept) (line ∷ lines) next each (inr seen) c here =
    elim (Among-append_cases c (kept_of g p (legal_after g p) seen.0) seen.1.0 (subst (λ (ps : List Prefix). Among c ps) seen.1.1.2 here)) [
      | inl first ↦ child-kept g level p c (each p (inl refl)) (kept-child g p c (legal_after g p) seen.0 (λ a among. among-legal g p.state a among) first)
      | inr later ↦ keeps-each g level kept lines seen.1.0 (λ q among. each q (inr among)) seen.1.1.1 c later
    ]

-- the next level's prefixes
pub keeps-kept : (g : SettingsFields) (level : ℕ) (kept : List Prefix) (lines : List (List ℕ)) (next : List Prefix) → AreKept g level kept → Keeps g kept lines next → AreKept g (level + 1) next
keeps-kept g level kept lines next all keeps = Among-All (IsKeptAt g (level + 1)) next (keeps-each g level kept lines next (λ p here. All-Among (IsKeptAt g level) kept p all here) keeps)

-- how many bytes lines take with their ends
abbrev pub room : List (List ℕ) → ℕ
room [] = 0
room (line ∷ lines) = length line + 1 + room lines

long-by : (b : Bool) (q : Prefix) (ps : List Prefix) (n : ℕ) → length ps ≤ n → length (if b then q ∷ ps else ps) ≤ suc n
long-by true q ps n h = omega (arith, h)
long-by false q ps n h = omega (arith, h)

kept_of-long : (g : SettingsFields) (p : Prefix) (actions : List Action) (row : List Verdict) → length (kept_of g p actions row) ≤ length row
kept_of-long g p [] row = omega arith
kept_of-long g p (a ∷ actions) [] = omega arith
kept_of-long g p (a ∷ actions) (v ∷ row) = long-by (is_kept v) (extend g p a) (kept_of g p actions row) (length row) (kept_of-long g p actions row)

parts-by : (b : Bool) (x : ℕ) (ps : List (List ℕ)) (n : ℕ) → length ps ≤ n + 1 → 1 ≤ length ps → length (if b then [] ∷ ps else in_front x ps) ≤ suc n + 1
parts-by true x ps n h some = omega (arith, h)
parts-by false x [] n h some = omega (arith, some)
parts-by false x (p ∷ ps) n h some = omega (arith, h)

room-by : (b : Bool) (x : ℕ) (ps : List (List ℕ)) (n : ℕ) → room ps ≡ n + 1 → 1 ≤ length ps → room (if b then [] ∷ ps else in_front x ps) ≡ suc n + 1
room-by true x ps n h some = omega (arith, h)
room-by false x [] n h some = absurd (omega (arith, some))
room-by false x (p ∷ ps) n h some = omega (arith, h)

pub parts-long : (mark : ℕ) (bytes : List ℕ) → length (parts mark bytes) ≤ length bytes + 1
parts-long mark [] = omega arith
parts-long mark (x ∷ bytes) = parts-by (x == mark) x (parts mark bytes) (length bytes) (parts-long mark bytes) (parts-some mark bytes)

row-long : (verdicts : List Verdict) (line : List ℕ) → IsRow verdicts line → length verdicts ≤ length line + 1
row-long [] line h = omega arith
row-long (v ∷ verdicts) line h = omega (arith, all-say-long (v ∷ verdicts) (parts space line) h, parts-long space line)

pub keeps-few : (g : SettingsFields) (kept : List Prefix) (lines : List (List ℕ)) (next : List Prefix) → Keeps g kept lines next → length next ≤ room lines
keeps-few g [] lines next keeps = omega (arith, ap (λ (l : List Prefix). length l) keeps)
keeps-few g (p ∷ kept) [] next keeps = omega (arith, ap (λ (l : List Prefix). length l) keeps)
keeps-few g (p ∷ kept) (line ∷ lines) next (inl none) = omega (arith, ap (λ (l : List Prefix). length l) none.1)
keeps-few g (p ∷ kept) (line ∷ lines) next (inr seen) =
    omega (arith, ap (λ (l : List Prefix). length l) seen.1.1.2, length-append (kept_of g p (legal_after g p) seen.0) seen.1.0, kept_of-long g p (legal_after g p) seen.0, row-long seen.0 line seen.1.1.0.says, keeps-few g kept lines seen.1.0 seen.1.1.1)

pub room-parts : (mark : ℕ) (bytes : List ℕ) → room (parts mark bytes) ≡ length bytes + 1
room-parts mark [] = omega arith
room-parts mark (x ∷ bytes) = room-by (x == mark) x (parts mark bytes) (length bytes) (room-parts mark bytes) (parts-some mark bytes)
