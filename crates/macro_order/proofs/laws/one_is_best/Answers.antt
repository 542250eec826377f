use Rattle.step_rules.specs.Legality.{start_of}
use Rattle.macro_order.proofs.Total.{only_best}
use Rattle.macro_order.proofs.laws.one_is_best.Goals as goal

pub returns : goal.returns
returns c = λ g m n p q. only_best g (start_of g) m n p q
