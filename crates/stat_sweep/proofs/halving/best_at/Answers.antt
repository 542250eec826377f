use Rattle.std.proofs.Common.{◌∙◌, ap, subst, List}
use Rattle.action_table.specs.declared.action.Action.{Action}
use Rattle.craft_settings.specs.Ranges.{SettingsFields}
use Rattle.craft_settings.specs.Inside.{settings_fields}
use Rattle.macro_order.specs.Order.{IsBest, NothingCompletes, score_of}
use Rattle.stat_sweep.specs.Bases.{with_base}
use Rattle.stat_sweep.specs.Halving.{IsTried, is_full}
use Rattle.stat_sweep.proofs.Enough.{nothing-base, best-tried}
use Rattle.stat_sweep.proofs.halving.best_at.Goals as goal

pub returns-in_default-clause-best : goal.returns-in_default-clause-best
returns-in_default-clause-best g c =
    let craft = settings_fields c.g.inside in
    let nothing : NothingCompletes (with_base craft c.args.base) = rw c.in_default.is at c.in_ok-actions.ensures.best in
    subst (λ (s : SettingsFields). NothingCompletes s) c.g.view_is (nothing-base craft c.args.base craft.base_quality nothing)

pub returns-clause-best : goal.returns-clause-best
returns-clause-best g c =
    let craft = settings_fields c.g.inside in
    let crafter = with_base craft c.args.base in
    let m = c.in-Some.actions.items in
    let best : IsBest crafter m = rw c.in-Some.is at c.in_ok-actions.ensures.best in
    let test = c.is_full-is_enough.ensures ∙ ap (λ (n : List Action). is_full crafter (score_of crafter n)) c.deref.ensures.value in
    subst (λ (s : SettingsFields). IsTried s c.args.base (record { plan = m; is_enough = c.is_full-is_enough.result })) c.g.view_is
    (best-tried craft c.args.base m c.is_full-is_enough.result best test)
