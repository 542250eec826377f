-- Of the entries so far those that survive are kept, and the columns have the numbers of those with the latest key.
use Rattle.pareto_front.proofs.Sweeps.{Swept}
use Rattle.pareto_front.proofs.sweep.keep_sorted.Given as goal

abbrev pub invariant-loop-entry : goal.invariant-loop-entry
invariant-loop-entry l = Swept l.sorted l.entry-index l.key l.columns l.kept.items
