use Rattle.std.proofs.Common.{◌≡◌, ◌∙◌, ap, sym, ℕ, Some, arith, subst, List}
use Rattle.action_table.specs.declared.action.Action.{Action}
use Rattle.craft_settings.specs.Ranges.{SettingsFields}
use Rattle.craft_settings.specs.Rules.{cap_of}
use Rattle.step_rules.specs.Legality.{start_of}
use Rattle.step_rules.specs.Macro.{IsReached}
use Rattle.step_rules.specs.Run.{run_of}
use Rattle.macro_order.specs.declared.scores.Score.{Score}
use Rattle.macro_order.specs.Order.{score_of}
use Rattle.prefix_fronts.specs.Prefix.{IsGreatest}
use Rattle.prefix_fronts.proofs.Best.{score-says}
use Rattle.level_search.proofs.tests.finds.Goals as goal

reached-by : (g : SettingsFields) (m : List Action) (s : Score) → score_of g m ≡ Some s → IsReached g s.quality
reached-by g m s scored =
    let says = score-says g m (run_of g (start_of g) m) s scored in
    record { actions = m; last = says.last; ran = says.ran; complete = says.full; same = sym says.quality }

-- no quality that counts is above the cap
capped-greatest : (g : SettingsFields) (target : ℕ) → target ≡ cap_of g → IsGreatest g target
capped-greatest g target cap m s scored =
    let says = score-says g m (run_of g (start_of g) m) s scored in
    omega (arith, says.quality, cap)

pub best_macro-requires-clause-reached : goal.best_macro-requires-clause-reached
best_macro-requires-clause-reached g c κs within =
    let craft = c.args.case.now.g.now in
    let same : c.in-Some.best.quality ≡ c.min-target.result = omega arith in
    subst (λ (q : ℕ). IsReached craft q) same (reached-by craft c.args.case.now.actions.now c.in-Some.best (sym c.score.ensures ∙ c.in-Some.is))

pub best_macro-requires-clause-greatest : goal.best_macro-requires-clause-greatest
best_macro-requires-clause-greatest g c κs within =
    let cap : c.min-target.result ≡ cap_of c.args.case.now.g.now = c.min-target.ensures ∙ ap cap_of c.g.view_is in
    capped-greatest c.args.case.now.g.now c.min-target.result cap
