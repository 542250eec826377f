use Rattle.std.proofs.Common.{refl}
use Rattle.front_walk.proofs.Joined.{if_ok}
use Rattle.best_search.proofs.Tabled.{is-table}
use Rattle.best_search.proofs.tables.table_of.Goals as goal

pub returns-clause-table : goal.returns-clause-table
returns-clause-table g c =
    if_ok c.new.result _ _ _ c.new.ensures.by c.new.ensures.by (λ b by _. is-table c.args.by.now.g c.args.by.now b c.requires.reckoned refl by)
