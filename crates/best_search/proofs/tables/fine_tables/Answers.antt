use Rattle.std.proofs.Common.{List, sym, subst}
use Rattle.std.specs.List.{All}
use Rattle.std.proofs.lemmas.List.Elements.{All-nil}
use Rattle.craft_settings.specs.Ranges.{SettingsFields}
use Rattle.priced_bound.specs.Bounds.{BoundFields}
use Rattle.best_search.specs.Looking.{IsTable}
use Rattle.best_search.proofs.Tabled.{tables-more}
use Rattle.best_search.proofs.tables.fine_tables.Goals as goal

pub loop-pricing-init : goal.loop-pricing-init
loop-pricing-init g c =
    let craft = c.args.g.now in
    subst (λ (bs : List BoundFields). All (IsTable craft) bs) (sym c.new-tables.ensures.items) (All-nil (IsTable craft))

pub loop-pricing-preserved : goal.loop-pricing-preserved
loop-pricing-preserved g c =
    let craft = c.args.g.now in
    tables-more craft c.loop-pricing.tables.items c.push.new.self.items c.in_ok-table_of.field-0 c.loop-pricing.invariant
    (subst (λ (h : SettingsFields). IsTable h c.in_ok-table_of.field-0) c.new-by.ensures.g c.in_ok-table_of.ensures.table)
    c.in_ok-push.ensures.items
