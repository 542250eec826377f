use Rattle.step_rules.proofs.LegalFacts.{legal_facts, legal_by}
use Rattle.step_rules.proofs.laws.legal_law.Goals as goal

pub returns-clause-only : goal.returns-clause-only
returns-clause-only c = legal_facts

pub returns-clause-always : goal.returns-clause-always
returns-clause-always c = legal_by
