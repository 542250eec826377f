use Rattle.std.proofs.Common.{List, sym, subst}
use Rattle.std.specs.List.{All}
use Rattle.std.proofs.lemmas.List.Elements.{All-nil}
use Rattle.priced_bound.specs.Bounds.{BoundFields}
use Rattle.best_search.specs.Looking.{IsTable}
use Rattle.best_search.proofs.Tabled.{tables-more}
use Rattle.best_search.proofs.tables.tables_below.Goals as goal

pub returns : goal.returns
returns g c =
    let craft = c.args.g.now in
    tables-more craft c.new-filled.result.items c.push.new.self.items c.in_ok-free_table.field-0
    (subst (λ (bs : List BoundFields). All (IsTable craft) bs) (sym c.new-filled.ensures.items) (All-nil (IsTable craft)))
    c.in_ok-free_table.ensures.table c.in_ok-push.ensures.items
