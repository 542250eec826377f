-- The best list after actions that are done, from the state that they lead to.
use Rattle.std.proofs.Common.{◌≡◌, ◌≤◌, ◌++◌, arith, length, length-append, List, Some}
use Rattle.action_table.specs.declared.action.Action.{Action}
use Rattle.craft_settings.specs.Ranges.{AreSettings, SettingsFields}
use Rattle.craft_state.specs.Craft.{StateFields}
use Rattle.macro_order.specs.Order.{IsBestAfter}
use Rattle.macro_order.proofs.Continuation.{best-from}
use Rattle.replay_report.proofs.Complete.{at_most, completes-scored}
use Rattle.step_rules.specs.Legality.{start_of}
use Rattle.step_rules.specs.Macro.{Completes}
use Rattle.step_rules.specs.Run.{run_of}
use Rattle.step_rules.specs.declared.legality.TheConstants.{MOST_STEPS}

pub completes-rest : (g : SettingsFields) (done rest : List Action) (from : StateFields) → run_of g (start_of g) done ≡ Some from → IsBestAfter g done rest → Completes g from rest
completes-rest g done rest from ran best = completes-scored g from rest _ (best-from g done rest from ran best).completes

-- the rest of a macro is no longer than the longest macro
pub short-rest : (g : SettingsFields) (done rest : List Action) → AreSettings g → IsBestAfter g done rest → length rest ≤ MOST_STEPS
short-rest g done rest settings best =
    let whole = at_most g (done ++ rest) settings (completes-scored g (start_of g) (done ++ rest) best.score best.completes) in
    omega (arith, whole, length-append done rest)
