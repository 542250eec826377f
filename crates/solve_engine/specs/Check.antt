-- What `check` answers.
use Rattle.std.specs.Prelude.{ℕ, ◌≡◌, ◌++◌, List, codes}
use Rattle.action_table.specs.declared.action.Action.{Action}
use Rattle.craft_settings.specs.Ranges.{SettingsFields}
use Rattle.macro_order.specs.Order.{IsBest, NothingCompletes}
use Rattle.replay_report.specs.Sample.{none_line}
use Rattle.replay_report.specs.declared.style.Report.TheVariants.{Plain}
use Rattle.run_io.specs.Answering.{Rows}
use Rattle.run_io.specs.declared.status.Status.TheVariants.{Solved, NoMacro, NotBest}
use Rattle.solve_words.specs.declared.words.Words.{Words}
use Rattle.solve_engine.specs.Input.{WithRest}
use Rattle.solve_engine.specs.Pasted.{WithMacro}
use Rattle.solve_engine.specs.Solve.{IsMacroText}

abbrev pub best_line : List ℕ
best_line = codes "best\n"

abbrev pub not_best_line : List ℕ
not_best_line = codes "not best\n"

-- the macro isn't the best one, and the text is a line that says so and then that of the best one in the plain style
pub record TellsBetter (g : SettingsFields) (grain : ℕ) (m : List Action) (text : List ℕ) : Type 0 where
  pub other : IsBest g m → ⊥
  pub best : List Action
  pub is_best : IsBest g best
  pub shown : List ℕ
  pub shows : IsMacroText g grain Plain best shown
  pub is : text ≡ not_best_line ++ shown

-- whether a macro is the best one
abbrev pub ChecksTo : ℕ → SettingsFields → List Action → Rows
ChecksTo grain g m Solved text = IsBest g m × (text ≡ best_line)
ChecksTo grain g m NotBest text = TellsBetter g grain m text
ChecksTo grain g m NoMacro text = NothingCompletes g × (text ≡ none_line)
ChecksTo grain g m _ text = ⊥

-- the answer to settings and macro text
abbrev pub CheckAnswers : Words → List ℕ → Rows
CheckAnswers given = WithRest (WithMacro (ChecksTo given.grain))
