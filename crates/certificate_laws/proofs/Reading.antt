-- Lines that are read to the end are those of a certificate.
use Rattle.std.proofs.Common.{◌≡◌, ◌∙◌, sym, ℕ, suc, ◌+◌, inl, inr, List, [], ◌∷◌, ◌++◌, length, Some, refl, ap, subst, arith}
use Rattle.action_table.specs.declared.action.Action.{Action}
use Rattle.craft_settings.specs.Ranges.{SettingsFields}
use Rattle.macro_order.specs.declared.scores.Score.{Score}
use Rattle.macro_order.specs.Order.{score_of}
use Rattle.prefix_fronts.specs.Prefix.{Prefix, empty_prefix}
use Rattle.certificate_text.specs.declared.verdict.Verdict.{Verdict}
use Rattle.certificate_text.specs.Text.{line_end, parts, first_line, best_line, level_line, IsRow, AreRows, AreLevels}
use Rattle.certificate_text.proofs.Unique.{row-same}
use Rattle.certificate_laws.specs.Claims.{Claim, legal_after, RowHolds, RowsHold, kept_of, next_kept, LevelsHold}
use Rattle.certificate_laws.specs.Lines.{Place, opening, naming, heading, judging, ending, Keeps, after_level, after_row, Reads}
use Rattle.certificate_laws.specs.Certificate.{IsCertificate}

-- the lines of the levels from one on
record ShownLevels (claim : Claim) (k : ℕ) (kept : List Prefix) (lines : List (List ℕ)) (actions : List Action) : Type 0 where
  pub levels : List (List (List Verdict))
  pub shown : AreLevels k levels lines
  pub hold : LevelsHold claim kept levels
  pub same : claim.actions ≡ actions

-- the lines of the rows that are left of a level, and of the levels after it
record ShownRows (claim : Claim) (k : ℕ) (kept next : List Prefix) (lines : List (List ℕ)) (actions : List Action) : Type 0 where
  pub rows : List (List Verdict)
  pub here : List (List ℕ)
  pub later : List (List ℕ)
  pub split : lines ≡ here ++ later
  pub text : AreRows rows here
  pub holds : RowsHold claim next kept rows
  pub levels : List (List (List Verdict))
  pub shown : AreLevels (k + 1) levels later
  pub hold : LevelsHold claim next levels
  pub same : claim.actions ≡ actions

Shown : Place → List (List ℕ) → List Action → Type 0
Shown opening lines actions = Unit {0}
Shown (naming grain) lines actions = Unit {0}
Shown (heading claim k kept) lines actions = ShownLevels claim k kept lines actions
Shown (judging claim k kept next) lines actions = ShownRows claim k kept next lines actions
Shown (ending claim) lines actions = (lines ≡ [] ∷ []) × (claim.actions ≡ actions)

pub row-long : (claim : Claim) (next : List Prefix) (p : Prefix) (actions : List Action) (verdicts : List Verdict) → RowHolds claim next p actions verdicts → length verdicts ≡ length actions
row-long claim next p [] [] h = refl
row-long claim next p [] (v ∷ verdicts) h = absurd h
row-long claim next p (a ∷ actions) [] h = absurd h
row-long claim next p (a ∷ actions) (v ∷ verdicts) h = ap suc (row-long claim next p actions verdicts h.1)

pub rows-long : (claim : Claim) (next kept : List Prefix) (rows : List (List Verdict)) → RowsHold claim next kept rows → length rows ≡ length kept
rows-long claim next [] [] h = refl
rows-long claim next [] (row ∷ rows) h = absurd h
rows-long claim next (p ∷ kept) [] h = absurd h
rows-long claim next (p ∷ kept) (row ∷ rows) h = ap suc (rows-long claim next kept rows h.1)

-- what the rows keep is what they were seen to keep
pub keeps-rows : (claim : Claim) (some next kept : List Prefix) (rows : List (List Verdict)) (here later : List (List ℕ)) → Keeps claim.g kept (here ++ later) next → AreRows rows here → RowsHold claim some kept rows →
    next ≡ next_kept claim.g kept rows
keeps-rows claim some next [] rows here later keeps text hold = keeps
keeps-rows claim some next (p ∷ kept) [] here later keeps text hold = absurd hold
keeps-rows claim some next (p ∷ kept) (row ∷ rows) [] later keeps text hold = absurd text
keeps-rows claim some next (p ∷ kept) (row ∷ rows) (line ∷ here) later (inl none) text hold =
    absurd (none.0 row record { says = text.0; each = row-long claim some p (legal_after claim.g p) row hold.0 })
keeps-rows claim some next (p ∷ kept) (row ∷ rows) (line ∷ here) later (inr seen) text hold =
    let long = row-long claim some p (legal_after claim.g p) row hold.0 in
    let same : seen.0 ≡ row = row-same seen.0 row line seen.1.1.0.says text.0 (seen.1.1.0.each ∙ sym long) in
    let rest = keeps-rows claim some seen.1.0 kept rows here later seen.1.1.1 text.1 hold.1 in
    seen.1.1.2 ∙ ap (λ (v : List Verdict). kept_of claim.g p (legal_after claim.g p) v ++ seen.1.0) same ∙ ap (λ (n : List Prefix). kept_of claim.g p (legal_after claim.g p) row ++ n) rest

level-shown : (claim : Claim) (k : ℕ) (kept next : List Prefix) (line : List ℕ) (lines : List (List ℕ)) (actions : List Action) → line ≡ level_line k (length kept) → Keeps claim.g kept lines next →
    Shown (after_level claim k kept next) lines actions → ShownLevels claim k kept (line ∷ lines) actions
unfolding Shown
level-shown claim k [] next line lines actions says keeps rest = record {
  levels = [];
  shown = ap (λ (l : List ℕ). l ∷ lines) says ∙ ap (λ (ls : List (List ℕ)). level_line k 0 ∷ ls) rest.0;
  hold = refl;
  same = rest.1;
}
level-shown claim k (p ∷ kept) next line lines actions says keeps rest =
    let long = rows-long claim next (p ∷ kept) rest.rows rest.holds in
    let same : next ≡ next_kept claim.g (p ∷ kept) rest.rows =
    keeps-rows claim next next (p ∷ kept) rest.rows rest.here rest.later (subst (λ (ls : List (List ℕ)). Keeps claim.g (p ∷ kept) ls next) rest.split keeps) rest.text rest.holds in
    record {
      levels = rest.rows ∷ rest.levels;
      shown = (rest.here, (rest.later, (ap (λ (l : List ℕ). l ∷ lines) (says ∙ ap (level_line k) (sym long)) ∙ ap (λ (ls : List (List ℕ)). level_line k (length rest.rows) ∷ ls) rest.split, rest.text, rest.shown)));
      hold = (omega arith, subst (λ (n : List Prefix). RowsHold claim n (p ∷ kept) rest.rows) same rest.holds, subst (λ (n : List Prefix). LevelsHold claim n rest.levels) same rest.hold);
      same = rest.same;
    }

row-shown : (claim : Claim) (k : ℕ) (p : Prefix) (kept next : List Prefix) (verdicts : List Verdict) (line : List ℕ) (lines : List (List ℕ)) (actions : List Action) → IsRow verdicts line → RowHolds claim next p (legal_after claim.g p) verdicts →
    Shown (after_row claim k kept next) lines actions → ShownRows claim k (p ∷ kept) next (line ∷ lines) actions
unfolding Shown
row-shown claim k p [] next verdicts line lines actions says holds rest = record {
  rows = verdicts ∷ [];
  here = line ∷ [];
  later = lines;
  split = refl;
  text = (says, tt);
  holds = (holds, tt);
  levels = rest.levels;
  shown = rest.shown;
  hold = rest.hold;
  same = rest.same;
}
row-shown claim k p (q ∷ kept) next verdicts line lines actions says holds rest = record {
  rows = verdicts ∷ rest.rows;
  here = line ∷ rest.here;
  later = rest.later;
  split = ap (λ (ls : List (List ℕ)). line ∷ ls) rest.split;
  text = (says, rest.text);
  holds = (holds, rest.holds);
  levels = rest.levels;
  shown = rest.shown;
  hold = rest.hold;
  same = rest.same;
}

reads-shown : (g : SettingsFields) (place : Place) (lines : List (List ℕ)) (actions : List Action) → Reads g place lines actions → Shown place lines actions
unfolding Shown
reads-shown g place [] actions h = absurd h
reads-shown g opening (rest ∷ []) actions h = tt
reads-shown g (naming grain) (rest ∷ []) actions h = tt
reads-shown g (heading claim k kept) (rest ∷ []) actions h = absurd h
reads-shown g (judging claim k kept next) (rest ∷ []) actions h = absurd h
reads-shown g (ending claim) (rest ∷ []) actions h = (ap (λ (l : List ℕ). l ∷ []) h.0, h.1)
reads-shown g opening (line ∷ more ∷ later) actions h = tt
reads-shown g (naming grain) (line ∷ more ∷ later) actions h = tt
reads-shown g (heading claim k kept) (line ∷ more ∷ later) actions h =
    let rest : Shown h.0 (more ∷ later) actions = reads-shown g h.0 (more ∷ later) actions h.1.1 in
    level-shown claim k kept h.1.0.0 line (more ∷ later) actions h.1.0.1.0 h.1.0.1.1 (subst (λ (place : Place). Shown place (more ∷ later) actions) h.1.0.1.2 rest)
reads-shown g (judging claim k [] next) (line ∷ more ∷ later) actions h = absurd h.1.0
reads-shown g (judging claim k (p ∷ kept) next) (line ∷ more ∷ later) actions h =
    let rest : Shown h.0 (more ∷ later) actions = reads-shown g h.0 (more ∷ later) actions h.1.1 in
    row-shown claim k p kept next h.1.0.0 line (more ∷ later) actions h.1.0.1.0 h.1.0.1.1 (subst (λ (place : Place). Shown place (more ∷ later) actions) h.1.0.1.2 rest)
reads-shown g (ending claim) (line ∷ more ∷ later) actions h = absurd h.1.0

-- a certificate of these lines
record Named (g : SettingsFields) (grain : ℕ) (lines : List (List ℕ)) (actions : List Action) : Type 0 where
  pub score : Score
  pub completes : score_of g actions ≡ Some score
  pub rest : List (List ℕ)
  pub text : lines ≡ best_line actions ∷ rest
  pub levels : ShownLevels (record { g = g; grain = grain; actions = actions; score = score }) 0 (empty_prefix g ∷ []) rest actions

named-by : (g : SettingsFields) (grain : ℕ) (lines : List (List ℕ)) (actions : List Action) → Reads g (naming grain) lines actions → Named g grain lines actions
unfolding Shown
named-by g grain [] actions h = absurd h
named-by g grain (rest ∷ []) actions h = absurd h
named-by g grain (line ∷ more ∷ later) actions h =
    let o = h.1.0 in
    let claim : Claim = record { g = g; grain = grain; actions = o.0; score = o.1.0 } in
    let shown : Shown (heading claim 0 (empty_prefix g ∷ [])) (more ∷ later) actions =
    subst (λ (place : Place). Shown place (more ∷ later) actions) o.1.1.2 (reads-shown g h.0 (more ∷ later) actions h.1.1) in
    subst (λ (m : List Action). Named g grain (line ∷ more ∷ later) m) shown.same
    record {
      score = o.1.0;
      completes = o.1.1.0;
      rest = more ∷ later;
      text = ap (λ (l : List ℕ). l ∷ more ∷ later) o.1.1.1;
      levels = record { levels = shown.levels; shown = shown.shown; hold = shown.hold; same = refl };
    }

certificate-by : (g : SettingsFields) (bytes : List ℕ) (lines : List (List ℕ)) (actions : List Action) → parts line_end bytes ≡ lines → Reads g opening lines actions → IsCertificate g bytes actions
certificate-by g bytes [] actions is h = absurd h
certificate-by g bytes (rest ∷ []) actions is h = absurd h
certificate-by g bytes (line ∷ more ∷ later) actions is h =
    let o = h.1.0 in
    let by = named-by g o.0 (more ∷ later) actions (subst (λ (place : Place). Reads g place (more ∷ later) actions) o.1.2 h.1.1) in
    record {
      certificate = record { grain = o.0; actions = actions; levels = by.levels.levels };
      text = record {
        later = by.rest;
        lines = is ∙ ap (λ (l : List ℕ). l ∷ more ∷ later) o.1.1 ∙ ap (λ (ls : List (List ℕ)). first_line o.0 ∷ ls) by.text;
        shown = by.levels.shown;
      };
      named = refl;
      valid = record { range = o.1.0; score = by.score; completes = by.completes; hold = by.levels.hold };
    }

-- lines that are read to the end make a certificate
pub reads-certificate : (g : SettingsFields) (bytes : List ℕ) (actions : List Action) → Reads g opening (parts line_end bytes) actions → IsCertificate g bytes actions
reads-certificate g bytes actions h = certificate-by g bytes (parts line_end bytes) actions refl h
