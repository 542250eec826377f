use Rattle.std.proofs.lemmas.Result.{err_from_is_err_and}
use Rattle.run_io.specs.Reading.{RefusesSettings}
use Rattle.run_io.specs.declared.status.Status.TheVariants.{BadMacro, BadSettings}
use Rattle.solve_engine.specs.Input.{WithRest}
use Rattle.solve_engine.specs.Pasted.{RefusesMacro, Unanswered, WithMacro}
use Rattle.solve_engine.proofs.Inputs.{halt_in, parts_by}
use Rattle.solve_engine.proofs.pasted.pasted_in.Goals as goal

pub returns-in_err-craft-clause-halts : goal.returns-in_err-craft-clause-halts
returns-in_err-craft-clause-halts c =
    let parts = parts_by c.args.input.now _ _ c.parts_within.ensures.are in
    let exit = err_from_is_err_and c.from_residual.result c.from_residual.ensures.1 in
    rw (exit.1, exit.2) (halt_in (WithRest (WithMacro Unanswered) c.args.input.now) BadSettings (RefusesSettings parts.settings) _ tt
    (λ line refuses. (parts, refuses)) c.in_err-craft.ensures.halts)

pub returns-in_err-actions-clause-halts : goal.returns-in_err-actions-clause-halts
returns-in_err-actions-clause-halts c =
    let parts = parts_by c.args.input.now _ _ c.parts_within.ensures.are in
    let exit = err_from_is_err_and c.from_residual-in_err-actions.result c.from_residual-in_err-actions.ensures.1 in
    rw (exit.1, exit.2) (halt_in (WithRest (WithMacro Unanswered) c.args.input.now) BadMacro (RefusesMacro parts.rest) _ tt
    (λ line refuses. (parts, c.in_ok-craft.craft, c.in_ok-craft.ensures.accepted, refuses)) c.in_err-actions.ensures.halts)

pub returns-clause-found : goal.returns-clause-found
returns-clause-found c = record {
  parts = parts_by c.args.input.now _ _ c.parts_within.ensures.are;
  accepted = c.in_ok-craft.ensures.accepted;
  pasted = c.in_ok-actions.ensures.found;
}
