-- The first two lines, and what they lead to.
use Rattle.std.proofs.Common.{◌≡◌, ◌∙◌, sym, ℕ, ◌+◌, ◌==◌, List, [], ◌∷◌, take, drop, Option, Some, None, refl, ap, subst, arith}
use Rattle.std.specs.List.{position}
use Rattle.std.proofs.lemmas.List.{take_rest, drop-drop}
use Rattle.action_table.specs.declared.action.Action.{Action}
use Rattle.craft_settings.specs.Ranges.{SettingsFields, IsFromTo}
use Rattle.macro_order.specs.declared.scores.Score.{Score}
use Rattle.macro_order.specs.Order.{score_of}
use Rattle.prefix_fronts.specs.Prefix.{empty_prefix}
use Rattle.certificate_text.specs.Text.{line_end, parts, first_line, best_line}
use Rattle.certificate_text.proofs.Parts.{parts-whole, position-less}
use Rattle.certificate_text.proofs.Printed.{best_line-same}
use Rattle.certificate_text.proofs.WordByWord.{from_on, parts-some}
use Rattle.certificate_laws.specs.Lines.{Place, opening, naming, heading, Obeys, Breaks}
use Rattle.front_check.specs.Named.{NamesNone}
use Rattle.front_check.specs.Levels.{LeadsTo, IsNamed}
use Rattle.front_check.proofs.Leading.{leads-none, leads-more, breaks-here}
use Rattle.front_check.proofs.FromLevel.{cut-first, rest-is}

abbrev found-at : List ℕ → Option ℕ
found-at text = position (λ byte. byte == line_end) text

pub first-missing : (g : SettingsFields) (text : List ℕ) → found-at text ≡ None → Breaks g opening (parts line_end text) 0
first-missing g text none = subst (λ (ls : List (List ℕ)). Breaks g opening ls 0) (sym (parts-whole line_end text none)) (refl, λ actions h. h)

pub first-other : (g : SettingsFields) (text : List ℕ) (end : ℕ) → found-at text ≡ Some end → ((grain : ℕ) → IsFromTo 1 64 grain → take end text ≡ first_line grain → ⊥) → Breaks g opening (parts line_end text) 0
first-other g text end found none =
    subst (λ (ls : List (List ℕ)). Breaks g opening ls 0) (sym (cut-first text end found))
    (breaks-here g opening (take end text) (parts line_end (from_on (end + 1) text)) (parts-some line_end (from_on (end + 1) text)) (λ after h. none h.0 h.1.0 h.1.1))

first-leads : (g : SettingsFields) (text : List ℕ) (end grain : ℕ) → found-at text ≡ Some end → IsFromTo 1 64 grain → take end text ≡ first_line grain →
    LeadsTo g opening (parts line_end text) (naming grain) (parts line_end (from_on (end + 1) text)) 1
first-leads g text end grain found range is =
    leads-more g opening opening (naming grain) (parts line_end text) (parts line_end (from_on (end + 1) text)) (take end text) 0
    (subst (λ (ls : List (List ℕ)). LeadsTo g opening (parts line_end text) opening ls 0) (cut-first text end found) (leads-none g opening (parts line_end text)))
    (grain, (range, is, refl))

pub second-missing : (g : SettingsFields) (text : List ℕ) (end grain : ℕ) → found-at text ≡ Some end → IsFromTo 1 64 grain → take end text ≡ first_line grain →
    found-at (from_on (end + 1) text) ≡ None → Breaks g opening (parts line_end text) 1
second-missing g text end grain found range is none =
    (first-leads g text end grain found range is).breaks 0
    (subst (λ (ls : List (List ℕ)). Breaks g (naming grain) ls 0) (sym (parts-whole line_end (from_on (end + 1) text) none)) (refl, λ actions h. h))

second-breaks : (g : SettingsFields) (text : List ℕ) (end second grain : ℕ) → found-at text ≡ Some end → IsFromTo 1 64 grain → take end text ≡ first_line grain → found-at (from_on (end + 1) text) ≡ Some second →
    ((after : Place) (later : List (List ℕ)) → Obeys g (naming grain) (take second (from_on (end + 1) text)) later after → ⊥) → Breaks g opening (parts line_end text) 1
second-breaks g text end second grain found range is next none =
    (first-leads g text end grain found range is).breaks 0
    (subst (λ (ls : List (List ℕ)). Breaks g (naming grain) ls 0) (sym (cut-first (from_on (end + 1) text) second next))
    (breaks-here g (naming grain) (take second (from_on (end + 1) text)) (parts line_end (from_on (second + 1) (from_on (end + 1) text))) (parts-some line_end (from_on (second + 1) (from_on (end + 1) text))) (λ after h. none after (parts line_end (from_on (second + 1) (from_on (end + 1) text))) h)))

pub second-other : (g : SettingsFields) (text : List ℕ) (end second grain : ℕ) → found-at text ≡ Some end → IsFromTo 1 64 grain → take end text ≡ first_line grain → found-at (from_on (end + 1) text) ≡ Some second →
    NamesNone (take second (from_on (end + 1) text)) → Breaks g opening (parts line_end text) 1
second-other g text end second grain found range is next none = second-breaks g text end second grain found range is next (λ after later h. none h.0 h.1.1.1)

no-score : (s : Score) → None ≡ Some s → ⊥
no-score s h = cc

pub second-unscored : (g : SettingsFields) (text : List ℕ) (end second grain : ℕ) (actions : List Action) → found-at text ≡ Some end → IsFromTo 1 64 grain → take end text ≡ first_line grain → found-at (from_on (end + 1) text) ≡ Some second →
    take second (from_on (end + 1) text) ≡ best_line actions → None ≡ score_of g actions → Breaks g opening (parts line_end text) 1
second-unscored g text end second grain actions found range is next says none =
    second-breaks g text end second grain found range is next
    (λ after later h. no-score h.1.0 (none ∙ ap (score_of g) (best_line-same actions h.0 (sym says ∙ h.1.1.1)) ∙ h.1.1.0))

pub opened-named : (g : SettingsFields) (text : List ℕ) (end second grain : ℕ) (actions : List Action) (score : Score) → found-at text ≡ Some end → IsFromTo 1 64 grain → take end text ≡ first_line grain → found-at (from_on (end + 1) text) ≡ Some second →
    take second (from_on (end + 1) text) ≡ best_line actions → Some score ≡ score_of g actions → IsNamed g text grain actions score (end + 1 + (second + 1))
opened-named g text end second grain actions score found range is next says scored =
    let rest = from_on (end + 1) text in
    let later : from_on (second + 1) rest ≡ drop (end + 1 + (second + 1)) text = take_rest rest (second + 1) ∙ ap (drop (second + 1)) (take_rest text (end + 1)) ∙ drop-drop (second + 1) (end + 1) text in
    let head = heading (record { g = g; grain = grain; actions = actions; score = score }) 0 (empty_prefix g ∷ []) in
    record {
      range = range;
      scored = sym scored;
      inside = omega (arith, position-less line_end text end found, position-less line_end rest second next, rest-is text (end + 1));
      leads = subst (λ (l : List ℕ). LeadsTo g opening (parts line_end text) head (parts line_end l) 2) later
          (leads-more g opening (naming grain) head (parts line_end text) (parts line_end (from_on (second + 1) rest)) (take second rest) 1
          (subst (λ (ls : List (List ℕ)). LeadsTo g opening (parts line_end text) (naming grain) ls 1) (cut-first rest second next) (first-leads g text end grain found range is))
          (actions, (score, (sym scored, says, refl))));
    }
