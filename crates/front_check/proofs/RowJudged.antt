-- Judging a row verdict by verdict.
use Rattle.std.proofs.Common.{IsTrue, ◌↔◌, ◌≡◌, ◌∙◌, sym, ℕ, zero, suc, ◌+◌, ◌<◌, ◌≤◌, min, true, false, inl, inr, List, [], ◌∷◌, ◌++◌, length, length-append, map, take, drop, get_or, slice_get, None, refl, ap, subst, arith}
use Rattle.std.proofs.Math.Seq.{drop-cons, take-append_seam}
use Rattle.std.proofs.lemmas.List.{drop_all}
use Rattle.action_table.specs.declared.action.Action.{Action}
use Rattle.craft_settings.specs.Ranges.{SettingsFields}
use Rattle.step_rules.specs.Legality.{start_of, is_legal}
use Rattle.step_rules.proofs.Bounds.{IsWithin-step}
use Rattle.step_rules.proofs.Runs.{run_of-snoc, length-macro}
use Rattle.action_table.specs.Table.{action_seconds}
use Rattle.prefix_fronts.specs.Prefix.{Prefix, extend}
use Rattle.prefix_fronts.proofs.Members.{seconds_of-snoc}
use Rattle.certificate_text.specs.declared.verdict.Verdict.{Verdict}
use Rattle.certificate_text.specs.declared.verdict.Verdict.TheVariants.{Complete, Failed, Limited, Late, Dominated, Kept}
use Rattle.certificate_text.specs.declared.numbers.TheConstants.{MOST_NUMBER}
use Rattle.certificate_text.specs.Reading.{as_read, IsNoRow, IsReadRow}
use Rattle.certificate_text.proofs.Unique.{row-same}
use Rattle.certificate_laws.specs.Claims.{Claim, Holds, legal_after, RowHolds}
use Rattle.front_check.specs.Judging.{IsBegun, RowObeys}
use Rattle.certificate_laws.proofs.Reading.{row-long}
use Rattle.plain_lemmas.proofs.Tests.{le_or}

pub child-begun : (g : SettingsFields) (p c : Prefix) (a : Action) → IsBegun g p → is_legal g p.state a ≡ true → c ≡ extend g p a → IsBegun g c
child-begun g p c a begun legal is =
    subst (λ (q : Prefix). IsBegun g q) (sym is) record {
      within = IsWithin-step g p.state a begun.within;
      ran = run_of-snoc g (start_of g) p.state p.actions a begun.ran legal;
      seconds = ap (λ n. n + action_seconds a) begun.seconds ∙ sym (seconds_of-snoc p.actions a);
      short = length-macro g (extend g p a).state (p.actions ++ a ∷ []) begun.within.settings (run_of-snoc g (start_of g) p.state p.actions a begun.ran legal);
    }

pub child-long : (g : SettingsFields) (p c : Prefix) (a : Action) → c ≡ extend g p a → length c.actions ≡ length p.actions + 1
child-long g p c a is = ap (λ (q : Prefix). length q.actions) is ∙ length-append p.actions (a ∷ [])

-- a child begins with the actions of its parent
pub child-begins : (g : SettingsFields) (p c : Prefix) (a : Action) → c ≡ extend g p a → take (length p.actions) c.actions ≡ p.actions
child-begins g p c a is = ap (λ (q : Prefix). take (length p.actions) q.actions) is ∙ take-append_seam p.actions (a ∷ [])

slice_get-none : {X : Type 0} (xs : List X) (i : ℕ) → length xs ≤ i → slice_get xs i ≡ None
slice_get-none [] i h = refl
slice_get-none (x ∷ xs) zero h = absurd (omega (arith, h))
slice_get-none (x ∷ xs) (suc i) h = slice_get-none xs i (omega (arith, h))

-- a place is as good as it is read
slice_get-read : (next : List Prefix) (j : ℕ) → length next ≤ MOST_NUMBER → slice_get next (min j MOST_NUMBER) ≡ slice_get next j
slice_get-read next j few = elim (le_or j MOST_NUMBER) [
  | inl low ↦ let e : min j MOST_NUMBER ≡ j = omega (arith, low) in ap (slice_get next) e
  | inr high ↦ slice_get-none next (min j MOST_NUMBER) (omega (arith, high, few)) ∙ sym (slice_get-none next j (omega (arith, high, few)))
]

holds-read : (claim : Claim) (next : List Prefix) (p : Prefix) (v : Verdict) → length next ≤ MOST_NUMBER → Holds claim next p (as_read v) → Holds claim next p v
holds-read claim next p Complete few h = h
holds-read claim next p Failed few h = h
holds-read claim next p Limited few h = h
holds-read claim next p Late few h = h
holds-read claim next p (Dominated place) few h = (h.0, (h.1.0, sym (slice_get-read next place few) ∙ h.1.1, h.1.2))
holds-read claim next p Kept few h = h

read-holds : (claim : Claim) (next : List Prefix) (p : Prefix) (v : Verdict) → length next ≤ MOST_NUMBER → Holds claim next p v → Holds claim next p (as_read v)
read-holds claim next p Complete few h = h
read-holds claim next p Failed few h = h
read-holds claim next p Limited few h = h
read-holds claim next p Late few h = h
read-holds claim next p (Dominated place) few h = (h.0, (h.1.0, slice_get-read next place few ∙ h.1.1, h.1.2))
read-holds claim next p Kept few h = h

row-read : (claim : Claim) (next : List Prefix) (p : Prefix) (actions : List Action) (row : List Verdict) → length next ≤ MOST_NUMBER → RowHolds claim next p actions (map as_read row) → RowHolds claim next p actions row
row-read claim next p [] [] few h = tt
row-read claim next p [] (v ∷ row) few h = absurd h
row-read claim next p (a ∷ actions) [] few h = absurd h
row-read claim next p (a ∷ actions) (v ∷ row) few h = (holds-read claim next (extend claim.g p a) v few h.0, row-read claim next p actions row few h.1)

read-row : (claim : Claim) (next : List Prefix) (p : Prefix) (actions : List Action) (row : List Verdict) → length next ≤ MOST_NUMBER → RowHolds claim next p actions row → RowHolds claim next p actions (map as_read row)
read-row claim next p [] [] few h = tt
read-row claim next p [] (v ∷ row) few h = absurd h
read-row claim next p (a ∷ actions) [] few h = absurd h
read-row claim next p (a ∷ actions) (v ∷ row) few h = (read-holds claim next (extend claim.g p a) v few h.0, read-row claim next p actions row few h.1)

-- the verdict at a place
row-get : (claim : Claim) (next : List Prefix) (p : Prefix) (actions : List Action) (row : List Verdict) (i : ℕ) (a : Action) (v : Verdict) → RowHolds claim next p actions row → i < length actions →
    Holds claim next (extend claim.g p (get_or actions i a)) (get_or row i v)
row-get claim next p [] row i a v h inside = absurd (omega (arith, inside))
row-get claim next p (b ∷ actions) [] i a v h inside = absurd h
row-get claim next p (b ∷ actions) (w ∷ row) zero a v h inside = h.0
row-get claim next p (b ∷ actions) (w ∷ row) (suc i) a v h inside = row-get claim next p actions row i a v h.1 (omega (arith, inside))

row-put : (claim : Claim) (next : List Prefix) (p : Prefix) (actions : List Action) (row : List Verdict) (i : ℕ) (a : Action) (v : Verdict) → i < length actions → i < length row →
    Holds claim next (extend claim.g p (get_or actions i a)) (get_or row i v) → RowHolds claim next p (drop (i + 1) actions) (drop (i + 1) row) → RowHolds claim next p (drop i actions) (drop i row)
row-put claim next p actions row i a v inside inside' holds rest =
    let one : suc i ≡ i + 1 = omega arith in
    let e : drop i actions ≡ get_or actions i a ∷ drop (i + 1) actions = drop-cons actions i a inside ∙ ap (λ (n : ℕ). get_or actions i a ∷ drop n actions) one in
    let f : drop i row ≡ get_or row i v ∷ drop (i + 1) row = drop-cons row i v inside' ∙ ap (λ (n : ℕ). get_or row i v ∷ drop n row) one in
    subst (λ (l : List Action). RowHolds claim next p l (drop i row)) (sym e) (subst (λ (l : List Verdict). RowHolds claim next p (get_or actions i a ∷ drop (i + 1) actions) l) (sym f) (holds, rest))

map-long : (row : List Verdict) → length (map as_read row) ≡ length row
map-long [] = refl
map-long (v ∷ row) = ap suc (map-long row)

read-long : (line : List ℕ) (count : ℕ) (row : List Verdict) → IsReadRow line count row → length row ≡ count
read-long line count row read = ap (λ (l : List Verdict). length l) read.1.2 ∙ map-long read.0 ∙ read.1.1

pub judged-next : (claim : Claim) (next : List Prefix) (p child : Prefix) (line : List ℕ) (listed : List Action) (verdicts row : List Verdict) (i : ℕ) (a : Action) (v : Verdict) → IsReadRow line (length listed) row → verdicts ≡ row → i < length listed →
    child ≡ extend claim.g p (get_or listed i a) → Holds claim next child (get_or verdicts i v) → (RowHolds claim next p (drop i listed) (drop i verdicts) → RowHolds claim next p listed verdicts) →
    RowHolds claim next p (drop (i + 1) listed) (drop (i + 1) verdicts) → RowHolds claim next p listed verdicts
judged-next claim next p child line listed verdicts row i a v read same inside is holds before rest =
    before (row-put claim next p listed verdicts i a v inside (omega (arith, inside, read-long line (length listed) row read, ap (λ (l : List Verdict). length l) same)) (subst (λ (q : Prefix). Holds claim next q (get_or verdicts i v)) is holds) rest)

-- a row that holds is the row that was read
read-back : (claim : Claim) (next : List Prefix) (p : Prefix) (line : List ℕ) (listed : List Action) (row : List Verdict) → IsReadRow line (length listed) row → listed ≡ legal_after claim.g p → length next ≤ MOST_NUMBER →
    RowObeys claim next p line → RowHolds claim next p listed row
read-back claim next p line listed row read all few good =
    let long = row-long claim next p (legal_after claim.g p) good.0 good.1.1 in
    let same : read.0 ≡ good.0 = row-same read.0 good.0 line read.1.0 good.1.0 (read.1.1 ∙ ap (λ (l : List Action). length l) all ∙ sym long) in
    let held : RowHolds claim next p listed good.0 = subst (λ (l : List Action). RowHolds claim next p l good.0) (sym all) good.1.1 in
    subst (λ (l : List Verdict). RowHolds claim next p listed l) (sym read.1.2) (read-row claim next p listed read.0 few (subst (λ (l : List Verdict). RowHolds claim next p listed l) (sym same) held))

pub judged-bad : (claim : Claim) (next : List Prefix) (p child : Prefix) (line : List ℕ) (listed : List Action) (verdicts row : List Verdict) (i : ℕ) (a : Action) (v : Verdict) → IsReadRow line (length listed) row → verdicts ≡ row → listed ≡ legal_after claim.g p → length next ≤ MOST_NUMBER →
    i < length listed → child ≡ extend claim.g p (get_or listed i a) → (Holds claim next child (get_or verdicts i v) → ⊥) → RowObeys claim next p line → ⊥
judged-bad claim next p child line listed verdicts row i a v read same all few inside is bad good =
    let held = read-back claim next p line listed row read all few good in
    let here = row-get claim next p listed verdicts i a v (subst (λ (l : List Verdict). RowHolds claim next p listed l) (sym same) held) inside in
    bad (subst (λ (q : Prefix). Holds claim next q (get_or verdicts i v)) (sym is) here)

nothing-left : (claim : Claim) (next : List Prefix) (p : Prefix) (listed : List Action) (verdicts : List Verdict) (i : ℕ) → length listed ≤ i → length verdicts ≤ i → RowHolds claim next p (drop i listed) (drop i verdicts)
nothing-left claim next p listed verdicts i all all' =
    subst (λ (l : List Action). RowHolds claim next p l (drop i verdicts)) (sym (drop_all i listed all)) (subst (λ (l : List Verdict). RowHolds claim next p [] l) (sym (drop_all i verdicts all')) tt)

pub judged-good : (claim : Claim) (next : List Prefix) (p : Prefix) (line : List ℕ) (listed : List Action) (verdicts row : List Verdict) (i : ℕ) → IsReadRow line (length listed) row → verdicts ≡ row → listed ≡ legal_after claim.g p → length next ≤ MOST_NUMBER →
    length listed ≤ i → (RowHolds claim next p (drop i listed) (drop i verdicts) → RowHolds claim next p listed verdicts) → RowObeys claim next p line
judged-good claim next p line listed verdicts row i read same all few done before =
    let held : RowHolds claim next p listed verdicts = before (nothing-left claim next p listed verdicts i done (omega (arith, done, read-long line (length listed) row read, ap (λ (l : List Verdict). length l) same))) in
    let rows : RowHolds claim next p listed read.0 = row-read claim next p listed read.0 few (subst (λ (l : List Verdict). RowHolds claim next p listed l) (same ∙ read.1.2) held) in
    (read.0, (read.1.0, subst (λ (l : List Action). RowHolds claim next p l read.0) all rows))

pub judged-none : (claim : Claim) (next : List Prefix) (p : Prefix) (line : List ℕ) (listed : List Action) → listed ≡ legal_after claim.g p → IsNoRow line (length listed) → RowObeys claim next p line → ⊥
judged-none claim next p line listed all none good =
    none good.0 good.1.0 (row-long claim next p (legal_after claim.g p) good.0 good.1.1 ∙ ap (λ (l : List Action). length l) (sym all))

-- an answer of yes or no
pub is_so : {P : Type 0} → P → IsTrue true ↔ P
is_so p = (λ _. p, λ _. refl)

pub is_not : {P : Type 0} → (P → ⊥) → IsTrue false ↔ P
is_not none = (λ h. absurd (cc h), λ p. absurd (none p))

pub not_false : {P : Type 0} → IsTrue false ↔ P → P → ⊥
not_false h p = cc (h.1 p)
