use Rattle.std.proofs.Common.{◌<◌, ◌+◌, arith, length, string_bytes}
use Rattle.replay_report.specs.Report.{table_of}
use Rattle.replay_report.proofs.Along.{state_read}
use Rattle.replay_report.proofs.Turns.{table_more}
use Rattle.replay_report.proofs.table.table_text.Goals as goal

pub loop-place-preserved : goal.loop-place-preserved
loop-place-preserved c g from are =
    let actions = c.args.actions.now in
    let place = c.loop-place.place in
    let inside : place < length actions = omega arith in
    table_more g from c.args.style.now c.args.limits.now _ actions place _ c.shown-limit.result (string_bytes c.loop-place.text) (string_bytes c.push_row.new.text) (table_of g from c.args.style.now c.args.limits.now actions)
    inside (state_read g from actions c.args.states.now (place + 1) _ are (omega (arith, inside)) c.index-states-place.is) c.shown-limit.ensures (c.loop-place.invariant g from are) c.in_ok-push_row.ensures
