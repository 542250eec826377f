use Rattle.std.proofs.Common.{is_none, sym, ap, ◌∙◌}
use Rattle.step_rules.proofs.LegalFacts.{reason_is}
use Rattle.step_rules.proofs.legality.check.Goals as goal

pub returns-in-Some-clause-legal : goal.returns-in-Some-clause-legal
returns-in-Some-clause-legal c = ap is_none (c.in-Some.ensures ∙ sym (reason_is c.args.g.now c.args.s.now c.args.action))

pub returns-in-Some-clause-reason : goal.returns-in-Some-clause-reason
returns-in-Some-clause-reason c = c.in-Some.ensures ∙ sym (reason_is c.args.g.now c.args.s.now c.args.action)

pub returns-in-None-clause-legal : goal.returns-in-None-clause-legal
returns-in-None-clause-legal c = ap is_none (c.in-None.ensures ∙ sym (reason_is c.args.g.now c.args.s.now c.args.action))

pub returns-in-None-clause-reason : goal.returns-in-None-clause-reason
returns-in-None-clause-reason c = c.in-None.ensures ∙ sym (reason_is c.args.g.now c.args.s.now c.args.action)
