use Rattle.step_rules.specs.Legality.{start_of}
use Rattle.macro_order.proofs.Total.{better_or, better_not}
use Rattle.macro_order.proofs.laws.one_is_better.Goals as goal

pub returns-clause-either : goal.returns-clause-either
returns-clause-either c = λ g m n a b x y. better_or g (start_of g) m n a b x y

pub returns-clause-not_both : goal.returns-clause-not_both
returns-clause-not_both c = better_not
