-- Why a text is no certificate.
use Rattle.std.specs.Prelude.{ℕ, List}
use Rattle.craft_settings.specs.Ranges.{SettingsFields}
use Rattle.certificate_laws.specs.Lines.{IsFirstFault}
use Rattle.front_check.specs.declared.checker.CertFault.{CertFault}
use Rattle.front_check.specs.declared.checker.CertFault.TheVariants.{Refused, WantMemory}

-- a line that is refused is the first that breaks a rule
abbrev pub IsFault : SettingsFields → List ℕ → CertFault → Type 0
IsFault g bytes (Refused line) = IsFirstFault g bytes line
IsFault g bytes WantMemory = Unit {0}
