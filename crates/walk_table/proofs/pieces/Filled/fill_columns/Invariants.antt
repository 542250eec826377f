use Rattle.std.proofs.Common.{◌*◌, take}
use Rattle.walk_table.specs.Pieces.{AreColumns}
use Rattle.walk_table.proofs.pieces.Filled.fill_columns.Given as goal

abbrev pub invariant-loop-j : goal.invariant-loop-j
invariant-loop-j l = AreColumns l.self.graph l.budget l.first l.self.needs (take (l.j * l.self.needs) l.run)
