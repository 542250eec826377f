use Rattle.std.proofs.Common.{◌≡◌, ◌≤◌, ◌+◌, sym, subst, ℕ, rules}
use Rattle.craft_settings.specs.Ranges.{AreSettings}
use Rattle.relaxed_moves.specs.Budget.{cost_of}
use Rattle.relaxed_moves.proofs.Costs.{cost_low}
use Rattle.relaxed_moves.proofs.budget.move_cost_by.Goals as goal

pub returns-clause-low : goal.returns-clause-low
unfolding cost_of
returns-clause-low c =
    let value : c.row-row.result.combo_cp + c.min.result ≡ cost_of c.args.g.now c.args.action = search rules in
    subst (λ (n : ℕ). 10 ≤ n) (sym value) (cost_low c.args.g.now c.args.action (subst AreSettings c.g.view_is c.g.invariant) c.requires.listed)
