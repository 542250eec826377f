use Rattle.std.proofs.Common.{◌≡◌, Ok, Err, IfOk}
use Rattle.craft_state.specs.Craft.{StateFields}
use Rattle.replay_report.specs.Lines.{head_of}
use Rattle.replay_report.specs.Report.{first_line}
use Rattle.replay_report.specs.States.{AreStatesOf}
use Rattle.replay_report.proofs.Turns.{first_line_is}
use Rattle.replay_report.proofs.table.first_line.Goals as goal

pub returns : goal.returns
returns c =
    let g = c.args.g.now in
    let m = c.args.actions.now in
    let states = c.args.states.now in
    elim c.head.result as (λ r. IfOk r (λ text. text.items ≡ head_of g m c.index-states-actions.result) → IfOk r (λ text. (from : StateFields) → AreStatesOf g from m states → text.items ≡ first_line g from m)) [
      | Ok text ↦ λ is from are. first_line_is g from m states c.index-states-actions.result text.items are c.index-states-actions.is is
      | Err e ↦ λ is. tt
    ] c.head.ensures
