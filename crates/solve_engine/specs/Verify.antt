-- What `verify` answers.
use Rattle.std.specs.Prelude.{ℕ, ◌≡◌, ◌<◌, ◌≤◌, ◌⊎◌, List, [], ◌∷◌, Option, None, Some, length, codes}
use Rattle.std.specs.List.{concat}
use Rattle.std.specs.Fmt.{decimal}
use Rattle.action_table.specs.declared.action.Action.{Action}
use Rattle.craft_settings.specs.Ranges.{SettingsFields}
use Rattle.certificate_laws.specs.Certificate.{IsCertificate}
use Rattle.certificate_laws.specs.Lines.{IsFirstFault}
use Rattle.run_io.specs.Answering.{Rows}
use Rattle.run_io.specs.Halts.{IsHaltBy}
use Rattle.run_io.specs.Reading.{AcceptsOnly, RefusesSettings}
use Rattle.run_io.specs.declared.answer.Answer.{Answer}
use Rattle.run_io.specs.declared.halt.Halt.{Halt}
use Rattle.run_io.specs.declared.status.Status.TheVariants.{Solved, BadSettings, BadCertificate}
use Rattle.solve_engine.specs.Input.{AreParts}
use Rattle.front_check.specs.declared.checker.TheConstants.{MOST_TEXT}

abbrev pub accepted_line : List ℕ
accepted_line = codes "accepted\n"

abbrev pub long_line : List ℕ
long_line = codes "certificate: too long\n"

abbrev pub no_mark_line : List ℕ
no_mark_line = codes "certificate: no --- line\n"

abbrev pub refused_line : ℕ → List ℕ
refused_line number = concat (codes "certificate: line " ∷ decimal number ∷ codes " refused\n" ∷ [])

-- the settings and the certificate of an input that isn't too long
pub record ProofParts (input : List ℕ) : Type 0 where
  pub few : length input ≤ MOST_TEXT
  pub settings : List ℕ
  pub rest : Option (List ℕ)
  pub are : AreParts MOST_TEXT input settings rest

-- what follows the settings is a certificate of a macro
abbrev pub IsProof : SettingsFields → Option (List ℕ) → Type 0
IsProof g None = ⊥
IsProof g (Some bytes) = (m : List Action) × IsCertificate g bytes m

-- what follows the settings is none, and this tells its first line that breaks a rule
pub record BreaksRule (g : SettingsFields) (bytes told : List ℕ) : Type 0 where
  pub line : ℕ
  pub first : IsFirstFault g bytes line
  pub is : told ≡ refused_line line

-- nothing follows the settings, or what follows them is no certificate
abbrev pub RefusesProof : SettingsFields → Option (List ℕ) → List ℕ → Type 0
RefusesProof g None told = told ≡ no_mark_line
RefusesProof g (Some bytes) told = BreaksRule g bytes told

-- the settings of an input, and what follows them
pub record Proof (input : List ℕ) : Type 0 where
  pub parts : ProofParts input
  pub g : SettingsFields
  pub accepted : AcceptsOnly parts.settings g

-- the answer to settings and a certificate: an input that is too long is refused first, then settings that are none
abbrev pub VerifyAnswers : List ℕ → Rows
VerifyAnswers input Solved text = (proof : Proof input) × IsProof proof.g proof.parts.rest × (text ≡ accepted_line)
VerifyAnswers input BadSettings line = (parts : ProofParts input) × RefusesSettings parts.settings line
VerifyAnswers input BadCertificate line =
    ((MOST_TEXT < length input) × (line ≡ long_line))
    ⊎ ((proof : Proof input) × RefusesProof proof.g proof.parts.rest line)
VerifyAnswers input _ text = ⊥

-- it is accepted
pub record IsAccepted (g : SettingsFields) (rest : Option (List ℕ)) (answer : Answer) : Type 0 where
  pub solved : answer.status ≡ Solved
  pub proof : IsProof g rest
  pub is : answer.text.items ≡ accepted_line

-- why it isn't
abbrev pub IsHaltOfProof : SettingsFields → Option (List ℕ) → Halt → Type 0
IsHaltOfProof g rest = IsHaltBy BadCertificate (RefusesProof g rest)
