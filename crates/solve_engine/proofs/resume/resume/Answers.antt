use Rattle.std.proofs.lemmas.Result.{err_from_is_err_and}
use Rattle.run_io.specs.declared.status.Status.TheVariants.{BadPrefix}
use Rattle.solve_engine.specs.Resume.{RefusesDone, ResumeAnswers}
use Rattle.solve_engine.proofs.Inputs.{halt_in}
use Rattle.solve_engine.proofs.resume.resume.Goals as goal

pub returns-in_err-craft : goal.returns-in_err-craft
returns-in_err-craft g c =
    let done = c.args.done.now in
    let settings = c.in_ok-settings.settings in
    let exit = err_from_is_err_and c.from_residual-in_err-craft.result c.from_residual-in_err-craft.ensures.1 in
    rw (exit.1, exit.2) (halt_in (ResumeAnswers done c.args.input.now) BadPrefix (RefusesDone settings done) _ tt
    (λ line refuses. (settings, c.in_ok-settings.ensures.accepted, refuses)) c.in_err-craft.ensures.halts)
