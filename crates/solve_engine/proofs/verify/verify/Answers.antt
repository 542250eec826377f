use Rattle.std.proofs.Common.{rules}
use Rattle.std.proofs.lemmas.Result.{err_from_is_err_and}
use Rattle.run_io.specs.Reading.{RefusesSettings}
use Rattle.run_io.specs.declared.status.Status.TheVariants.{BadSettings}
use Rattle.solve_engine.specs.Verify.{VerifyAnswers}
use Rattle.solve_engine.proofs.Inputs.{halt_in}
use Rattle.solve_engine.proofs.Proved.{judged_input, proof_parts_by}
use Rattle.solve_engine.proofs.verify.verify.Goals as goal

pub returns-in_err-craft : goal.returns-in_err-craft
returns-in_err-craft c =
    let parts = proof_parts_by c.args.input.now _ _ (search rules) c.parts_within.ensures.are in
    let exit = err_from_is_err_and c.from_residual-in_err-craft.result c.from_residual-in_err-craft.ensures.1 in
    rw (exit.1, exit.2) (halt_in (VerifyAnswers c.args.input.now) BadSettings (RefusesSettings parts.settings) _ tt (λ line refuses. (parts, refuses)) c.in_err-craft.ensures.halts)

pub returns : goal.returns
returns c =
    let parts = proof_parts_by c.args.input.now _ _ (search rules) c.parts_within.ensures.are in
    judged_input c.args.input.now (record { parts = parts; g = c.in_ok-craft.craft; accepted = c.in_ok-craft.ensures.accepted }) c.judged.result
    c.judged.ensures.accepted c.judged.ensures.halts
