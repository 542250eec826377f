use Rattle.priced_graph.specs.Numbers.{AreListed}
use Rattle.priced_graph.proofs.numbers.numbers_of.Given as goal

abbrev pub invariant-loop-place : goal.invariant-loop-place
invariant-loop-place l = AreListed l.sights l.place l.numbers.items
