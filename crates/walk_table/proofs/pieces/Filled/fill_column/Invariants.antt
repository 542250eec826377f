use Rattle.walk_table.specs.Tops.{IsColumnBefore}
use Rattle.walk_table.proofs.pieces.Filled.fill_column.Given as goal

abbrev pub invariant-loop-k : goal.invariant-loop-k
invariant-loop-k l = IsColumnBefore l.self.graph l.budget l.node l.k l.out
