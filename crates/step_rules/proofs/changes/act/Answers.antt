use Rattle.std.proofs.Common.{arith, rules}
use Rattle.step_rules.proofs.LegalFacts.{legal_paid}
use Rattle.step_rules.proofs.changes.act.Goals as goal

pub overflow_sub-result : goal.overflow_sub-result
overflow_sub-result c =
    let paid = legal_paid c.args.g.now c.args.s.now c.args.action c.requires.legal in
    first_of (grind (arith, paid), omega (arith, paid, c.cp_cost.ensures.value), search (rules, paid))
