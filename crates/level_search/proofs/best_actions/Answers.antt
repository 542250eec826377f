use Rattle.std.proofs.Common.{sym, subst}
use Rattle.craft_state.specs.Craft.{StateFields}
use Rattle.prefix_fronts.specs.Prefix.{IsOpen, IsReachedFrom}
use Rattle.prefix_fronts.proofs.Best.{reached-start}
use Rattle.prefix_fronts.proofs.Members.{start-open}
use Rattle.level_search.proofs.Crafts.{aim-settings}
use Rattle.level_search.proofs.best_actions.Goals as goal

pub best_with_quality-requires-clause-open : goal.best_with_quality-requires-clause-open
best_with_quality-requires-clause-open g c κs within =
    let aim = c.args.aim.now in
    subst (λ (s : StateFields). IsOpen aim.g.now s) (sym c.start-from.ensures.value) (start-open aim.g.now (aim-settings aim))

pub best_with_quality-requires-clause-reached : goal.best_with_quality-requires-clause-reached
best_with_quality-requires-clause-reached g c κs within =
    let aim = c.args.aim.now in
    subst (λ (s : StateFields). IsReachedFrom aim.g.now s aim.target) (sym c.start-from.ensures.value) (reached-start aim.g.now aim.target c.requires.reached)
