-- What `resume` answers.
use Rattle.std.specs.Prelude.{ℕ, ◌≡◌, ◌+◌, ◌++◌, List, codes}
use Rattle.action_table.specs.declared.action.Action.{Action}
use Rattle.craft_settings.specs.Ranges.{SettingsFields}
use Rattle.craft_state.specs.Craft.{StateFields}
use Rattle.macro_order.specs.Order.{IsBestAfter, NothingCompletesAfter}
use Rattle.replay_report.specs.Replayed.{stop_line}
use Rattle.replay_report.specs.Report.{continuation_of}
use Rattle.replay_report.specs.Sample.{none_line}
use Rattle.resume_start.specs.Done.{IsAfter, IsUnderway, IsUnfit}
use Rattle.resume_start.specs.declared.underway.Unfit.{Unfit}
use Rattle.resume_start.specs.declared.underway.Unfit.TheVariants.{Illegal, Over}
use Rattle.run_io.specs.Answering.{Rows, WithSettings}
use Rattle.run_io.specs.Halts.{IsHaltBy}
use Rattle.run_io.specs.declared.halt.Halt.{Halt}
use Rattle.run_io.specs.declared.status.Status.TheVariants.{Solved, NoMacro, BadPrefix}

-- the line that tells why a craft doesn't go on; the number of a step is counted from 1
abbrev pub unfit_line : Unfit → List ℕ
unfit_line (Illegal place why) = codes "done: " ++ stop_line (place + 1) why
unfit_line Over = codes "done: the craft is over\n"

-- an action that is done isn't legal in its turn, and the line tells the first such, or else the craft is over after
-- them all, and the line tells that
abbrev pub RefusesDone : SettingsFields → List Action → List ℕ → Type 0
RefusesDone g done line = (unfit : Unfit) × IsUnfit g done unfit × (line ≡ unfit_line unfit)

-- why a craft doesn't go on after the actions that are done
abbrev pub IsHaltOfDone : SettingsFields → List Action → Halt → Type 0
IsHaltOfDone g done = IsHaltBy BadPrefix (RefusesDone g done)

-- the text of the best list after the actions that are done, from the state that these lead to
pub record TellsRest (g : SettingsFields) (done : List Action) (text : List ℕ) : Type 0 where
  pub from : StateFields
  pub after : IsAfter g done from
  pub rest : List Action
  pub best : IsBestAfter g done rest
  pub is : text ≡ continuation_of g from rest

-- the best way to end the craft after the actions that are done, or `none` where nothing completes it after them
abbrev pub ResumesTo : List Action → SettingsFields → Rows
ResumesTo done g Solved text = TellsRest g done text
ResumesTo done g NoMacro text = IsUnderway g done × NothingCompletesAfter g done × (text ≡ none_line)
ResumesTo done g BadPrefix line = RefusesDone g done line
ResumesTo done g _ bytes = ⊥

-- the answer to the bytes of a settings file
abbrev pub ResumeAnswers : List Action → List ℕ → Rows
ResumeAnswers done = WithSettings (ResumesTo done)
