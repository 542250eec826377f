use Rattle.std.proofs.Common.{Some, length, ◌+◌, arith}
use Rattle.step_rules.specs.Macro.{counted}
use Rattle.relaxed_moves.proofs.Greatest.{option_le-trans}
use Rattle.priced_laws.proofs.Reached.{limit-run, limit-free}
use Rattle.priced_laws.proofs.Limits.{limit-step}
use Rattle.priced_laws.proofs.free_law.Goals as goal

pub returns-clause-step : goal.returns-clause-step
returns-clause-step c = λ p g units s a j fair are free many later.
    option_le-trans _ _ _ (limit-step p g units s a j fair are later (omega arith))
    (limit-free p g units s (j + 1) j fair are later.step.within free many)

pub returns-clause-within : goal.returns-clause-within
returns-clause-within c = λ p g units s t actions j fair are free many done first.
    option_le-trans (Some (counted g t)) _ _ (limit-run p g units s t actions fair are done first)
    (limit-free p g units s (length actions) j fair are done.within free many)
