-- What the checker answers of a whole text.
use Rattle.std.proofs.Common.{◌≡◌, sym, ℕ, List, [], ◌∷◌, subst}
use Rattle.std.proofs.lemmas.List.{take_rest}
use Rattle.action_table.specs.declared.action.Action.{Action}
use Rattle.craft_settings.specs.Ranges.{SettingsFields}
use Rattle.macro_order.specs.declared.scores.Score.{Score}
use Rattle.prefix_fronts.specs.Prefix.{empty_prefix}
use Rattle.certificate_text.specs.Text.{line_end, parts}
use Rattle.certificate_text.proofs.WordByWord.{from_on}
use Rattle.certificate_laws.specs.Claims.{Claim}
use Rattle.certificate_laws.specs.Certificate.{IsCertificate}
use Rattle.certificate_laws.specs.Lines.{opening, heading, Reads}
use Rattle.certificate_laws.proofs.Reading.{reads-certificate}
use Rattle.front_check.specs.Levels.{LeadsTo, IsNamed}

-- what the first two lines claim
abbrev pub named_claim : SettingsFields → ℕ → List Action → Score → Claim
named_claim g grain actions score = record { g = g; grain = grain; actions = actions; score = score }

leads-rest : (g : SettingsFields) (bytes : List ℕ) (grain : ℕ) (actions : List Action) (score : Score) (from : ℕ) → IsNamed g bytes grain actions score from →
    LeadsTo g opening (parts line_end bytes) (heading (named_claim g grain actions score) 0 (empty_prefix g ∷ [])) (parts line_end (from_on from bytes)) 2
leads-rest g bytes grain actions score from named =
    subst (λ (l : List ℕ). LeadsTo g opening (parts line_end bytes) (heading (named_claim g grain actions score) 0 (empty_prefix g ∷ [])) (parts line_end l) 2) (sym (take_rest bytes from)) named.leads

pub verified : (g : SettingsFields) (bytes : List ℕ) (grain : ℕ) (actions listed : List Action) (score : Score) (from : ℕ) → IsNamed g bytes grain actions score from → listed ≡ actions →
    Reads g (heading (named_claim g grain listed score) 0 (empty_prefix g ∷ [])) (parts line_end (from_on from bytes)) listed → IsCertificate g bytes actions
verified g bytes grain actions listed score from named same reads =
    reads-certificate g bytes actions ((leads-rest g bytes grain actions score from named).reads actions
    (subst (λ (m : List Action). Reads g (heading (named_claim g grain m score) 0 (empty_prefix g ∷ [])) (parts line_end (from_on from bytes)) m) same reads))
