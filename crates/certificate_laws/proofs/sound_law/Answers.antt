use Rattle.std.proofs.Common.{List, subst}
use Rattle.action_table.specs.declared.action.Action.{Action}
use Rattle.macro_order.specs.Order.{IsBest}
use Rattle.certificate_laws.proofs.Sound.{certificate-best}
use Rattle.certificate_laws.proofs.sound_law.Goals as goal

pub returns-clause-valid : goal.returns-clause-valid
returns-clause-valid c = certificate-best

pub returns-clause-text : goal.returns-clause-text
returns-clause-text c = λ g bytes actions settings h. subst (λ (m : List Action). IsBest g m) h.named (certificate-best g h.certificate settings h.valid)
