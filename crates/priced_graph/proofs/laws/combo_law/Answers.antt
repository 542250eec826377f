use Rattle.priced_graph.proofs.Closed.{combo-edges-lead_on}
use Rattle.priced_graph.proofs.Tied.{combo-best}
use Rattle.priced_graph.proofs.laws.combo_law.Goals as goal

pub returns-clause-best : goal.returns-clause-best
returns-clause-best c most p g units budget x fair are bound = combo-best most p g units budget x fair are bound

pub returns-clause-lead_on : goal.returns-clause-lead_on
returns-clause-lead_on c p g units x fair in_g i edge at = combo-edges-lead_on p g units x fair in_g i edge at
