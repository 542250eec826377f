use Rattle.std.proofs.Common.{List, subst}
use Rattle.action_table.specs.declared.action.Action.{Action}
use Rattle.run_io.specs.Halts.{IsAnswerIn}
use Rattle.solve_engine.specs.Replay.{PlaysTo}
use Rattle.solve_engine.proofs.Inputs.{answered_input}
use Rattle.solve_engine.proofs.replay.replay.Goals as goal

pub returns : goal.returns
returns c =
    let pasted = c.in_ok-pasted.pasted in
    let answer = c.in_ok-played.field-0 in
    let played = subst (λ (m : List Action). IsAnswerIn (PlaysTo pasted.craft m) answer) c.deref.ensures.value c.in_ok-played.ensures in
    answered_input PlaysTo c.args.input.now pasted.craft pasted.actions.items answer c.in_ok-pasted.ensures.found played
