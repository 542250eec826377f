use Rattle.walk_table.specs.Made.{AreMade}
use Rattle.walk_table.proofs.filling.make_some.Given as goal

abbrev pub invariant-loop : goal.invariant-loop
invariant-loop l = AreMade l.filled.graph l.filled.needs l.from l.to l.made.items
