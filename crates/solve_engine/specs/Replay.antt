-- What `replay` answers.
use Rattle.std.specs.Prelude.{ℕ, ◌≡◌, List, Some}
use Rattle.action_table.specs.declared.action.Action.{Action}
use Rattle.craft_state.specs.Craft.{StateFields}
use Rattle.craft_settings.specs.Ranges.{SettingsFields}
use Rattle.step_rules.specs.Legality.{start_of}
use Rattle.step_rules.specs.Run.{run_of, StopsAt}
use Rattle.step_rules.specs.declared.legality.Illegal.{Illegal}
use Rattle.replay_report.specs.Replayed.{ended_replay_of, stopped_replay_of}
use Rattle.run_io.specs.Answering.{Rows}
use Rattle.run_io.specs.declared.status.Status.TheVariants.{Solved, StoppedMacro}
use Rattle.solve_engine.specs.Input.{WithRest}
use Rattle.solve_engine.specs.Pasted.{WithMacro}

-- each action is legal in its turn, and the text tells them all
pub record PlaysOut (g : SettingsFields) (m : List Action) (text : List ℕ) : Type 0 where
  pub last : StateFields
  pub ran : run_of g (start_of g) m ≡ Some last
  pub is : text ≡ ended_replay_of g m last

-- an action isn't legal in its turn, and the text tells those before it, and why
pub record PlaysTill (g : SettingsFields) (m : List Action) (text : List ℕ) : Type 0 where
  pub place : ℕ
  pub why : Illegal
  pub state : StateFields
  pub stops : StopsAt g (start_of g) m place why state
  pub is : text ≡ stopped_replay_of g m place why

-- what a macro does, step by step
abbrev pub PlaysTo : SettingsFields → List Action → Rows
PlaysTo g m Solved text = PlaysOut g m text
PlaysTo g m StoppedMacro text = PlaysTill g m text
PlaysTo g m _ text = ⊥

-- the answer to settings and macro text
abbrev pub ReplayAnswers : List ℕ → Rows
ReplayAnswers = WithRest (WithMacro PlaysTo)
