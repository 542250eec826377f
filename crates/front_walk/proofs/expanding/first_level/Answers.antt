use Rattle.std.proofs.Common.{◌≤◌, ◌∙◌, List, length, IsOk, ap, subst}
use Rattle.std.specs.List.{All, flat_map}
use Rattle.front_walk.specs.declared.walker.Walker.{Walker}
use Rattle.front_walk.specs.Asking.{nodes_in}
use Rattle.front_walk.specs.Nodes.{roots_upto}
use Rattle.front_walk.proofs.Joined.{all-still, rooted, if_ok, still-asking}
use Rattle.front_walk.proofs.expanding.first_level.Goals as goal

pub returns-clause-askers : goal.returns-clause-askers
returns-clause-askers g c =
    let w = c.args.walk.now in
    still-asking _ _ (roots_upto w.from.now (g.T.StateTest.passes w.test.now) c.args.n) c.args.crew.now.workers _
    (record { as_many = c.ask_first.ensures.as_many; each = c.ask_first.ensures.found })

pub returns-clause-still : goal.returns-clause-still
returns-clause-still g c =
    let w = c.args.walk.now in
    all-still _ _ (roots_upto w.from.now (g.T.StateTest.passes w.test.now) c.args.n) c.args.crew.now.workers _
    (record { as_many = c.ask_first.ensures.as_many; each = c.ask_first.ensures.found })

pub returns-clause-nodes : goal.returns-clause-nodes
returns-clause-nodes g c =
    let w = c.args.walk.now in
    let same = c.workers.ensures.workers in
    if_ok c.gather.result _ _ _ c.gather.ensures.nodes c.gather.ensures.whole (λ v are whole.
    are ∙ ap (flat_map (λ (w : Walker _). nodes_in w.found)) same
    ∙ rooted _ _ w.from.now (g.T.StateTest.passes w.test.now) c.args.n c.args.crew.now.workers c.ask_first.new.crew.workers (subst (λ (l : List (Walker _)). 1 ≤ length l) same c.workers.ensures.low)
    (record { as_many = c.ask_first.ensures.as_many; each = c.ask_first.ensures.found }) (subst (λ (l : List (Walker _)). All (λ w. IsOk w.found) l) same whole))
