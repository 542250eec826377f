use Rattle.priced_graph.proofs.Tied.{greatest-best, answer-best}
use Rattle.priced_graph.proofs.laws.walks_law.Goals as goal

pub returns-clause-greatest : goal.returns-clause-greatest
returns-clause-greatest c p g units graph most budget node need fair are tie small below = greatest-best p g units graph most budget node need fair are tie small below

pub returns-clause-only : goal.returns-clause-only
returns-clause-only c p g units graph most budget node need answer fair are tie small below h = answer-best p g units graph most budget node need answer fair are tie small below h
