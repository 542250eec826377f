-- The lines of a certificate are read to the end.
use Rattle.std.proofs.Common.{◌≡◌, sym, ℕ, ◌+◌, ◌<◌, inr, List, [], ◌∷◌, ◌++◌, length, refl, ap, subst, arith}
use Rattle.action_table.specs.declared.action.Action.{Action}
use Rattle.craft_settings.specs.Ranges.{SettingsFields}
use Rattle.prefix_fronts.specs.Prefix.{Prefix, empty_prefix}
use Rattle.certificate_text.specs.declared.verdict.Verdict.{Verdict}
use Rattle.certificate_text.specs.Text.{line_end, parts, first_line, best_line, level_line, AreRows, AreLevels}
use Rattle.certificate_laws.specs.Claims.{Claim, legal_after, RowsHold, next_kept, LevelsHold}
use Rattle.certificate_laws.specs.Lines.{Place, opening, naming, heading, judging, ending, Keeps, after_level, after_row, Obeys, Reads}
use Rattle.certificate_laws.specs.Certificate.{IsCertificate}
use Rattle.certificate_laws.proofs.Reading.{row-long, rows-long}

-- a line that obeys, before lines that are read
pub reads-step : (g : SettingsFields) (place after : Place) (line : List ℕ) (lines : List (List ℕ)) (actions : List Action) → Obeys g place line lines after → Reads g after lines actions → Reads g place (line ∷ lines) actions
reads-step g place after line [] actions obeys rest = absurd rest
reads-step g place after line (more ∷ later) actions obeys rest = (after, (obeys, rest))

rows-read : (g : SettingsFields) (claim : Claim) (k : ℕ) (next kept : List Prefix) (rows : List (List Verdict)) (here later : List (List ℕ)) (actions : List Action) → AreRows rows here → RowsHold claim next kept rows →
    Reads g (heading claim (k + 1) next) later actions → Reads g (after_row claim k kept next) (here ++ later) actions
rows-read g claim k next [] [] [] later actions text hold rest = rest
rows-read g claim k next [] [] (line ∷ here) later actions text hold rest = absurd text
rows-read g claim k next [] (row ∷ rows) here later actions text hold rest = absurd hold
rows-read g claim k next (p ∷ kept) [] here later actions text hold rest = absurd hold
rows-read g claim k next (p ∷ kept) (row ∷ rows) [] later actions text hold rest = absurd text
rows-read g claim k next (p ∷ kept) (row ∷ rows) (line ∷ here) later actions text hold rest =
    reads-step g (judging claim k (p ∷ kept) next) (after_row claim k kept next) line (here ++ later) actions (row, (text.0, hold.0, refl)) (rows-read g claim k next kept rows here later actions text.1 hold.1 rest)

keeps-by : (claim : Claim) (some kept : List Prefix) (rows : List (List Verdict)) (here later : List (List ℕ)) → AreRows rows here → RowsHold claim some kept rows → Keeps claim.g kept (here ++ later) (next_kept claim.g kept rows)
keeps-by claim some [] rows here later text hold = refl
keeps-by claim some (p ∷ kept) [] here later text hold = absurd hold
keeps-by claim some (p ∷ kept) (row ∷ rows) [] later text hold = absurd text
keeps-by claim some (p ∷ kept) (row ∷ rows) (line ∷ here) later text hold =
    inr (row, (next_kept claim.g kept rows, (record { says = text.0; each = row-long claim some p (legal_after claim.g p) row hold.0 }, keeps-by claim some kept rows here later text.1 hold.1, refl)))

some-rows : (g : SettingsFields) (claim : Claim) (k : ℕ) (kept next : List Prefix) (lines : List (List ℕ)) (actions : List Action) → 0 < length kept → Reads g (after_row claim k kept next) lines actions → Reads g (after_level claim k kept next) lines actions
some-rows g claim k [] next lines actions some h = absurd (omega (arith, some))
some-rows g claim k (p ∷ kept) next lines actions some h = h

no-level : (g : SettingsFields) (claim : Claim) (k : ℕ) (kept : List Prefix) → kept ≡ [] → Reads g (heading claim k kept) (level_line k 0 ∷ [] ∷ []) claim.actions
no-level g claim k [] none = (ending claim, (([], (refl, refl, refl)), (refl, refl)))
no-level g claim k (p ∷ kept) none = cc

pub levels-read : (g : SettingsFields) (claim : Claim) (k : ℕ) (kept : List Prefix) (levels : List (List (List Verdict))) (lines : List (List ℕ)) → AreLevels k levels lines → LevelsHold claim kept levels → Reads g (heading claim k kept) lines claim.actions
levels-read g claim k kept [] lines shown hold = subst (λ (ls : List (List ℕ)). Reads g (heading claim k kept) ls claim.actions) (sym shown) (no-level g claim k kept hold)
levels-read g claim k kept (rows ∷ levels) lines shown hold =
    let next = next_kept claim.g kept rows in
    let here = shown.0 in
    let later = shown.1.0 in
    let long = rows-long claim next kept rows hold.1 in
    let rest = levels-read g claim (k + 1) next levels later shown.1.1.2 hold.2 in
    let read = some-rows g claim k kept next (here ++ later) claim.actions hold.0 (rows-read g claim k next kept rows here later claim.actions shown.1.1.1 hold.1 rest) in
    subst (λ (ls : List (List ℕ)). Reads g (heading claim k kept) ls claim.actions) (sym shown.1.1.0)
    (reads-step g (heading claim k kept) (after_level claim k kept next) (level_line k (length rows)) (here ++ later) claim.actions
    (next, (ap (level_line k) long, keeps-by claim next kept rows here later shown.1.1.1 hold.1, refl)) read)

-- a certificate is read to the end
pub certificate-reads : (g : SettingsFields) (bytes : List ℕ) (actions : List Action) → IsCertificate g bytes actions → Reads g opening (parts line_end bytes) actions
certificate-reads g bytes actions h =
    let c = h.certificate in
    let claim : Claim = record { g = g; grain = c.grain; actions = c.actions; score = h.valid.score } in
    subst (λ (m : List Action). Reads g opening (parts line_end bytes) m) h.named
    (subst (λ (ls : List (List ℕ)). Reads g opening ls c.actions) (sym h.text.lines)
    (reads-step g opening (naming c.grain) (first_line c.grain) (best_line c.actions ∷ h.text.later) c.actions (c.grain, (h.valid.range, refl, refl))
    (reads-step g (naming c.grain) (heading claim 0 (empty_prefix g ∷ [])) (best_line c.actions) h.text.later c.actions (c.actions, (h.valid.score, (h.valid.completes, refl, refl)))
    (levels-read g claim 0 (empty_prefix g ∷ []) c.levels h.text.later h.text.shown h.valid.hold))))
