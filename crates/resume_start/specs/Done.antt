-- Actions that are done of a craft, and whether it goes on after them.
use Rattle.std.specs.Prelude.{List, Some, true, ◌≡◌}
use Rattle.action_table.specs.declared.action.Action.{Action}
use Rattle.craft_settings.specs.Ranges.{SettingsFields}
use Rattle.craft_state.specs.Craft.{StateFields}
use Rattle.prefix_fronts.specs.Prefix.{IsOpen}
use Rattle.step_rules.specs.Legality.{start_of, is_over}
use Rattle.step_rules.specs.Run.{run_of, StopsAt}
use Rattle.resume_start.specs.declared.underway.Unfit.{Unfit}
use Rattle.resume_start.specs.declared.underway.Unfit.TheVariants.{Illegal, Over}

-- the actions are legal in turn from the start and lead to this state, and the craft isn't over in it
pub record IsAfter (g : SettingsFields) (done : List Action) (from : StateFields) : Type 0 where
  pub ran : run_of g (start_of g) done ≡ Some from
  pub is_open : IsOpen g from

-- the craft goes on after the actions
abbrev pub IsUnderway : SettingsFields → List Action → Type 0
IsUnderway g done = (from : StateFields) × IsAfter g done from

-- the actions are legal in turn, and the craft is over after them
pub record IsOverAfter (g : SettingsFields) (done : List Action) : Type 0 where
  pub last : StateFields
  pub ran : run_of g (start_of g) done ≡ Some last
  pub over : is_over g last ≡ true

-- why the craft doesn't go on after the actions
abbrev pub IsUnfit : SettingsFields → List Action → Unfit → Type 0
IsUnfit g done (Illegal place why) = (state : StateFields) × StopsAt g (start_of g) done place why state
IsUnfit g done Over = IsOverAfter g done
