-- What `certify` answers.
use Rattle.std.specs.Prelude.{ℕ, ◌≡◌, List}
use Rattle.action_table.specs.declared.action.Action.{Action}
use Rattle.craft_settings.specs.Ranges.{SettingsFields}
use Rattle.macro_order.specs.Order.{IsBest, NothingCompletes}
use Rattle.certificate_laws.specs.Made.{IsMade}
use Rattle.replay_report.specs.Sample.{none_line}
use Rattle.run_io.specs.Answering.{Rows, WithSettings}
use Rattle.run_io.specs.declared.status.Status.TheVariants.{Solved, NoMacro}
use Rattle.solve_words.specs.declared.words.Words.{Words}

-- the certificate that is made for the best macro, or `none` where no legal macro completes
abbrev pub CertifiesTo : ℕ → SettingsFields → Rows
CertifiesTo grain g Solved text = (m : List Action) × IsBest g m × IsMade g grain m text
CertifiesTo grain g NoMacro text = NothingCompletes g × (text ≡ none_line)
CertifiesTo grain g _ text = ⊥

-- the answer to the bytes of a settings file
abbrev pub CertifyAnswers : Words → List ℕ → Rows
CertifyAnswers given = WithSettings (CertifiesTo given.grain)
