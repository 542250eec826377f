-- A list that has a score completes the craft.
use Rattle.std.proofs.Common.{◌≡◌, ◌≢◌, ◌≤◌, length, List, Option, Some, None, arith, refl}
use Rattle.action_table.specs.declared.action.Action.{Action}
use Rattle.craft_state.specs.Craft.{StateFields}
use Rattle.craft_settings.specs.Ranges.{SettingsFields, AreSettings}
use Rattle.step_rules.specs.Macro.{Completes}
use Rattle.step_rules.specs.Legality.{start_of}
use Rattle.step_rules.specs.Run.{run_of}
use Rattle.step_rules.specs.declared.legality.TheConstants.{MOST_STEPS}
use Rattle.step_rules.proofs.Runs.{length-macro}
use Rattle.macro_order.specs.declared.scores.Score.{Score}
use Rattle.macro_order.specs.Order.{score_from, scored}

pub completes-scored : (g : SettingsFields) (from : StateFields) (m : List Action) (score : Score) →
    score_from g from m ≡ Some score → Completes g from m
completes-scored g from m score e =
    elim (run_of g from m) as (λ (o : Option StateFields). run_of g from m ≡ o → scored g m o ≡ Some score → Completes g from m) [
      | None ↦ λ ran h. cc
      | Some last ↦ λ ran h. record { last = last; ran = ran; complete = grind arith }
    ] refl e

-- a list whose actions are legal in turn has no more than the most
pub ran_at_most : (g : SettingsFields) (m : List Action) → AreSettings g → run_of g (start_of g) m ≢ None → length m ≤ MOST_STEPS
ran_at_most g m settings runs =
    elim (run_of g (start_of g) m) as (λ (o : Option StateFields). run_of g (start_of g) m ≡ o → length m ≤ MOST_STEPS) [
      | None ↦ λ stopped. absurd (runs stopped)
      | Some last ↦ λ ran. length-macro g last m settings ran
    ] refl

-- one that completes the craft has no more either
pub at_most : (g : SettingsFields) (m : List Action) → AreSettings g → Completes g (start_of g) m → length m ≤ MOST_STEPS
at_most g m settings whole = length-macro g whole.last m settings whole.ran
