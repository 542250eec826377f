-- What `solve` answers.
use Rattle.std.specs.Prelude.{ℕ, ◌≡◌, List, length}
use Rattle.action_table.specs.declared.action.Action.{Action}
use Rattle.craft_settings.specs.Ranges.{SettingsFields}
use Rattle.macro_order.specs.Order.{IsBest, NothingCompletes}
use Rattle.level_search.specs.Answer.{HasQuality}
use Rattle.level_search.specs.Reaching.{front_sizes}
use Rattle.replay_report.specs.Limits.{AreLimitsFor}
use Rattle.replay_report.specs.Report.{report_of}
use Rattle.replay_report.specs.Sample.{none_line}
use Rattle.replay_report.specs.declared.style.Report.{Report}
use Rattle.run_io.specs.Answering.{Rows, WithSettings}
use Rattle.run_io.specs.declared.status.Status.TheVariants.{Solved, NoMacro}
use Rattle.solve_words.specs.declared.words.Words.{Words}

-- the text of a macro in a style, with the sizes of its fronts at a grain, and with the limits where the style shows them
pub record IsMacroText (g : SettingsFields) (grain : ℕ) (style : Report) (m : List Action) (text : List ℕ) : Type 0 where
  pub quality : ℕ
  pub has : HasQuality g m quality
  pub limits : List ℕ
  pub limited : AreLimitsFor g grain style m limits
  pub is : text ≡ report_of g style (front_sizes g grain quality (length m)) limits m

-- the text of the best macro, as the words ask for it, or `none` where no legal macro completes
abbrev pub SolvesTo : Words → SettingsFields → Rows
SolvesTo given g Solved text = (m : List Action) × IsBest g m × IsMacroText g given.grain given.report m text
SolvesTo given g NoMacro text = NothingCompletes g × (text ≡ none_line)
SolvesTo given g _ text = ⊥

-- the answer to the bytes of a settings file
abbrev pub SolveAnswers : Words → List ℕ → Rows
SolveAnswers given = WithSettings (SolvesTo given)
