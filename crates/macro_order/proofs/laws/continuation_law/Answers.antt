use Rattle.std.proofs.Common.{[], refl}
use Rattle.step_rules.specs.Legality.{start_of}
use Rattle.macro_order.proofs.Continuation.{best-after, best-from, nothing-after, nothing-from, rest-is-best}
use Rattle.macro_order.proofs.laws.continuation_law.Goals as goal

pub returns-clause-best : goal.returns-clause-best
returns-clause-best call = λ g done c s ran. (best-from g done c s ran, best-after g done c s ran)

pub returns-clause-nothing : goal.returns-clause-nothing
returns-clause-nothing call = λ g done s ran. (nothing-from g done s ran, nothing-after g done s ran)

pub returns-clause-empty : goal.returns-clause-empty
returns-clause-empty call = λ g c. (best-from g [] c (start_of g) refl, best-after g [] c (start_of g) refl)

pub returns-clause-rest : goal.returns-clause-rest
returns-clause-rest call = rest-is-best
