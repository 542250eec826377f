use Rattle.std.proofs.lemmas.Option.{slice_get-get_or}
use Rattle.std.proofs.Common.{sym, arith, ◌<◌, length}
use Rattle.step_rules.proofs.Runs.{run_of-take, run_of-stopped}
use Rattle.step_rules.proofs.run.replay.Goals as goal

pub loop-place-preserved : goal.loop-place-preserved
loop-place-preserved c = record {
  within = c.step-state.ensures.within;
  short = omega (arith, c.step-state.ensures.falls, c.loop-place.invariant.short);
  ran = rw c.step-state.ensures.value (run_of-take _ _ _ _ _ _ (omega arith) c.loop-place.invariant.ran (sym c.in_default.ensures.legal));
}

pub returns-in-Err-clause-no_run : goal.returns-in-Err-clause-no_run
returns-in-Err-clause-no_run c =
    let actions = c.args.actions.now in
    let place = c.loop-place.place in
    let inside : place < length actions = omega arith in
    run_of-stopped _ _ c.loop-place.state actions place _ c.loop-place.invariant.ran (slice_get-get_or actions place _ inside) (sym c.in-Err.ensures.legal)
