use Rattle.std.proofs.Common.{◌≡◌, true, nat_le, sym, subst}
use Rattle.craft_state.specs.Craft.{StateFields}
use Rattle.relaxed_moves.specs.Budget.{potential_of, start_potential_of}
use Rattle.prefix_fronts.specs.Prefix.{IsOpen}
use Rattle.prefix_fronts.proofs.Members.{start-open}
use Rattle.level_search.proofs.Crafts.{aim-settings, aim-grain}
use Rattle.level_search.proofs.Reached.{are_limits, start_allowed}
use Rattle.level_search.proofs.count.Goals as goal

pub invariant_of-walk-clause-open : goal.invariant_of-walk-clause-open
invariant_of-walk-clause-open g c =
    let aim = c.args.aim.now in
    subst (λ (s : StateFields). IsOpen aim.g.now s) (sym c.start-from.ensures.value) (start-open aim.g.now (aim-settings aim))

pub invariant_of-walk-clause-allowed : goal.invariant_of-walk-clause-allowed
invariant_of-walk-clause-allowed g c =
    let craft = c.args.aim.now.g.now in
    subst (λ (s : StateFields). nat_le (potential_of craft s) (start_potential_of craft) ≡ true) (sym c.start-from.ensures.value) (start_allowed craft)

pub invariant_of-walk-clause-limits : goal.invariant_of-walk-clause-limits
invariant_of-walk-clause-limits g c =
    let aim = c.args.aim.now in
    are_limits aim.g.now aim.grain aim.target (aim-grain aim)
