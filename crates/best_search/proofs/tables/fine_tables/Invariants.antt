use Rattle.std.specs.List.{All}
use Rattle.best_search.specs.Looking.{IsTable}
use Rattle.best_search.proofs.tables.fine_tables.Given as goal

abbrev pub invariant-loop-pricing : goal.invariant-loop-pricing
invariant-loop-pricing g l = All (IsTable l.g) l.tables.items
