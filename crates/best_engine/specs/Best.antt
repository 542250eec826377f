-- What is answered to settings.
use Rattle.std.specs.Prelude.{ℕ, ◌≡◌, List}
use Rattle.action_table.specs.declared.action.Action.{Action}
use Rattle.craft_settings.specs.Ranges.{SettingsFields}
use Rattle.macro_order.specs.Order.{IsBest, NothingCompletes}
use Rattle.step_rules.specs.Legality.{start_of}
use Rattle.replay_report.specs.Report.{continuation_of}
use Rattle.replay_report.specs.Sample.{none_line}
use Rattle.run_io.specs.Answering.{Rows, WithSettings}
use Rattle.run_io.specs.declared.status.Status.TheVariants.{Solved, NoMacro}

-- the text of the best macro, or `none` where no legal macro completes
abbrev pub BestOf : SettingsFields → Rows
BestOf g Solved text = (m : List Action) × IsBest g m × (text ≡ continuation_of g (start_of g) m)
BestOf g NoMacro text = NothingCompletes g × (text ≡ none_line)
BestOf g _ text = ⊥

-- the answer to the bytes of a settings file
abbrev pub BestAnswers : List ℕ → Rows
BestAnswers = WithSettings BestOf
