-- The lines lead to one answer at most.
use Rattle.std.proofs.Common.{◌≡◌, ◌∙◌, sym, ℕ, zero, suc, inl, inr, List, [], ◌∷◌, ◌++◌, refl, ap, subst}
use Rattle.plain_lemmas.proofs.Tests.{some_same}
use Rattle.action_table.specs.declared.action.Action.{Action}
use Rattle.craft_settings.specs.Ranges.{SettingsFields}
use Rattle.macro_order.specs.Order.{score_of}
use Rattle.prefix_fronts.specs.Prefix.{Prefix, empty_prefix}
use Rattle.certificate_text.specs.declared.verdict.Verdict.{Verdict}
use Rattle.certificate_text.proofs.Unique.{row-same}
use Rattle.certificate_text.proofs.Printed.{first_line-same, best_line-same}
use Rattle.certificate_laws.specs.Claims.{legal_after, kept_of}
use Rattle.certificate_laws.specs.Lines.{Place, opening, naming, heading, judging, ending, Keeps, after_level, Obeys, Ends, Reads, Breaks}

keeps-same : (g : SettingsFields) (kept : List Prefix) (lines : List (List ℕ)) (a b : List Prefix) → Keeps g kept lines a → Keeps g kept lines b → a ≡ b
keeps-same g [] lines a b h k = h ∙ sym k
keeps-same g (p ∷ kept) [] a b h k = h ∙ sym k
keeps-same g (p ∷ kept) (line ∷ lines) a b (inl none) (inl none') = none.1 ∙ sym none'.1
keeps-same g (p ∷ kept) (line ∷ lines) a b (inl none) (inr seen) = absurd (none.0 seen.0 seen.1.1.0)
keeps-same g (p ∷ kept) (line ∷ lines) a b (inr seen) (inl none) = absurd (none.0 seen.0 seen.1.1.0)
keeps-same g (p ∷ kept) (line ∷ lines) a b (inr one) (inr other) =
    let row = row-same one.0 other.0 line one.1.1.0.says other.1.1.0.says (one.1.1.0.each ∙ sym other.1.1.0.each) in
    let rest = keeps-same g kept lines one.1.0 other.1.0 one.1.1.1 other.1.1.1 in
    one.1.1.2 ∙ ap (λ (v : List Verdict). kept_of g p (legal_after g p) v ++ one.1.0) row ∙ ap (λ (n : List Prefix). kept_of g p (legal_after g p) other.0 ++ n) rest ∙ sym other.1.1.2

obeys-same : (g : SettingsFields) (place : Place) (line : List ℕ) (later : List (List ℕ)) (a b : Place) → Obeys g place line later a → Obeys g place line later b → a ≡ b
obeys-same g opening line later a b h k =
    h.1.2 ∙ ap naming (first_line-same h.0 k.0 h.1.0.high k.1.0.high (sym h.1.1 ∙ k.1.1)) ∙ sym k.1.2
obeys-same g (naming grain) line later a b h k =
    let same : h.0 ≡ k.0 = best_line-same h.0 k.0 (sym h.1.1.1 ∙ k.1.1.1) in
    let score : h.1.0 ≡ k.1.0 = some_same h.1.0 k.1.0 (sym h.1.1.0 ∙ ap (score_of g) same ∙ k.1.1.0) in
    h.1.1.2 ∙ (λ i. heading (record { g = g; grain = grain; actions = same i; score = score i }) 0 (empty_prefix g ∷ [])) ∙ sym k.1.1.2
obeys-same g (heading claim level kept) line later a b h k =
    h.1.2 ∙ ap (after_level claim level kept) (keeps-same claim.g kept later h.0 k.0 h.1.1 k.1.1) ∙ sym k.1.2
obeys-same g (judging claim level [] next) line later a b h k = absurd h
obeys-same g (judging claim level (p ∷ kept) next) line later a b h k = h.1.2 ∙ sym k.1.2
obeys-same g (ending claim) line later a b h k = absurd h

ends-same : (place : Place) (rest : List ℕ) (a b : List Action) → Ends place rest a → Ends place rest b → a ≡ b
ends-same opening rest a b h k = absurd h
ends-same (naming grain) rest a b h k = absurd h
ends-same (heading claim level kept) rest a b h k = absurd h
ends-same (judging claim level kept next) rest a b h k = absurd h
ends-same (ending claim) rest a b h k = sym h.1 ∙ k.1

-- one macro
pub reads-same : (g : SettingsFields) (place : Place) (lines : List (List ℕ)) (a b : List Action) → Reads g place lines a → Reads g place lines b → a ≡ b
reads-same g place [] a b h k = absurd h
reads-same g place (rest ∷ []) a b h k = ends-same place rest a b h k
reads-same g place (line ∷ more ∷ later) a b h k =
    let same = obeys-same g place line (more ∷ later) h.0 k.0 h.1.0 k.1.0 in
    reads-same g k.0 (more ∷ later) a b (subst (λ (p : Place). Reads g p (more ∷ later) a) same h.1.1) k.1.1

-- or one line
pub breaks-same : (g : SettingsFields) (place : Place) (lines : List (List ℕ)) (m n : ℕ) → Breaks g place lines m → Breaks g place lines n → m ≡ n
breaks-same g place [] m n h k = absurd h
breaks-same g place (rest ∷ []) m n h k = h.0 ∙ sym k.0
breaks-same g place (line ∷ more ∷ later) zero zero h k = refl
breaks-same g place (line ∷ more ∷ later) zero (suc n) h k = absurd (h k.0 k.1.0)
breaks-same g place (line ∷ more ∷ later) (suc m) zero h k = absurd (k h.0 h.1.0)
breaks-same g place (line ∷ more ∷ later) (suc m) (suc n) h k =
    let same = obeys-same g place line (more ∷ later) h.0 k.0 h.1.0 k.1.0 in
    ap suc (breaks-same g k.0 (more ∷ later) m n (subst (λ (p : Place). Breaks g p (more ∷ later) m) same h.1.1) k.1.1)

-- and not both
pub reads-or-breaks : (g : SettingsFields) (place : Place) (lines : List (List ℕ)) (actions : List Action) (n : ℕ) → Reads g place lines actions → Breaks g place lines n → ⊥
reads-or-breaks g place [] actions n h k = absurd h
reads-or-breaks g place (rest ∷ []) actions n h k = k.1 actions h
reads-or-breaks g place (line ∷ more ∷ later) actions zero h k = k h.0 h.1.0
reads-or-breaks g place (line ∷ more ∷ later) actions (suc n) h k =
    let same = obeys-same g place line (more ∷ later) h.0 k.0 h.1.0 k.1.0 in
    reads-or-breaks g k.0 (more ∷ later) actions n (subst (λ (p : Place). Reads g p (more ∷ later) actions) same h.1.1) k.1.1
