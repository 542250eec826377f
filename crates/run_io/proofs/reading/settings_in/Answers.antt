use Rattle.std.proofs.Common.{refl}
use Rattle.run_io.proofs.FaultLength.{are_only, are_refused}
use Rattle.run_io.proofs.reading.settings_in.Goals as goal

pub returns-in-Ok-clause-accepted : goal.returns-in-Ok-clause-accepted
returns-in-Ok-clause-accepted c = are_only c.in-Ok.settings _ c.in-Ok.ensures.accepted c.in-Ok.ensures.accepts

pub returns-in_ok-settings_line-in-Err-clause-halts : goal.returns-in_ok-settings_line-in-Err-clause-halts
returns-in_ok-settings_line-in-Err-clause-halts c =
    rw c.refused.ensures (refl, are_refused c.in-Err.fault _ _ c.in_ok-settings_line-in-Err.ensures.memory c.in-Err.ensures.fault c.in_ok-settings_line-in-Err.ensures.line)
