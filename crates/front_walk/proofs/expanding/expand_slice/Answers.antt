use Rattle.std.proofs.Common.{◌+◌, ◌-◌, ◌≤◌, ◌∙◌, ◌++◌, List, length, IsOk, ap, subst}
use Rattle.std.specs.List.{All, flat_map}
use Rattle.worker_gate.specs.Cut.{cut}
use Rattle.pareto_front.specs.Covers.{uncovered}
use Rattle.front_walk.specs.declared.walker.Walker.{Walker}
use Rattle.front_walk.specs.Asking.{nodes_in}
use Rattle.front_walk.specs.Nodes.{goes_and_passes, nodes_upto}
use Rattle.front_walk.proofs.Joined.{alike-may, alike-still, expanded, if_ok, still-asking}
use Rattle.front_walk.proofs.Turns.{uncovered-again}
use Rattle.front_walk.proofs.expanding.expand_slice.Goals as goal

pub returns-clause-askers : goal.returns-clause-askers
returns-clause-askers g c =
    let w = c.args.stage.now.walk.now in
    let test = goes_and_passes w.g.now (g.T.StateTest.passes w.test.now) c.args.stage.now.left in
    let nodes = c.args.stage.now.nodes.now in
    let slice = c.args.slice.now in
    alike-may (g.T.StateTest.may_ask w.test.now) c.expand_ranges.new.crew.workers c.let_go.new.crew.workers (record { as_many = c.let_go.ensures.as_many; each = c.let_go.ensures.asker })
    (still-asking (g.T.StateTest.may_ask w.test.now) g.T.StateTest.still_asks (λ k. nodes_upto w.g.now test nodes (slice.from + cut (slice.to - slice.from) (length c.args.crew.now.workers) k)) c.args.crew.now.workers
    c.expand_ranges.new.crew.workers (record { as_many = c.expand_ranges.ensures.as_many; each = c.expand_ranges.ensures.found }))

pub returns-clause-still : goal.returns-clause-still
returns-clause-still g c =
    let w = c.args.stage.now.walk.now in
    let test = goes_and_passes w.g.now (g.T.StateTest.passes w.test.now) c.args.stage.now.left in
    let nodes = c.args.stage.now.nodes.now in
    let slice = c.args.slice.now in
    alike-still (g.T.StateTest.may_ask w.test.now) g.T.StateTest.still_asks (λ k. nodes_upto w.g.now test nodes (slice.from + cut (slice.to - slice.from) (length c.args.crew.now.workers) k)) c.args.crew.now.workers
    c.expand_ranges.new.crew.workers c.let_go.new.crew.workers (record { as_many = c.expand_ranges.ensures.as_many; each = c.expand_ranges.ensures.found })
    (record { as_many = c.let_go.ensures.as_many; each = c.let_go.ensures.asker })

pub returns-clause-kept : goal.returns-clause-kept
returns-clause-kept g c =
    let w = c.args.stage.now.walk.now in
    let test = goes_and_passes w.g.now (g.T.StateTest.passes w.test.now) c.args.stage.now.left in
    let nodes = c.args.stage.now.nodes.now in
    let slice = c.args.slice.now in
    let same = c.workers.ensures.workers in
    let found = λ (walkers : List (Walker _)). flat_map (λ (w : Walker _). nodes_in w.found) walkers in
    if_ok c.prune_found-kept.result _ _ _ c.prune_found-kept.ensures.kept c.prune_found-kept.ensures.whole (λ v are whole.
    are
    ∙ (λ i. uncovered (c.requires.pruned i ++ found (same i)))
    ∙ uncovered-again (nodes_upto w.g.now test nodes slice.from) (found c.expand_ranges.new.crew.workers)
    ∙ ap uncovered (expanded _ _ w.g.now test nodes slice.from slice.to c.args.crew.now.workers c.expand_ranges.new.crew.workers slice.order
    (subst (λ (l : List (Walker _)). 1 ≤ length l) same c.workers.ensures.low)
    (record { as_many = c.expand_ranges.ensures.as_many; each = c.expand_ranges.ensures.found }) (subst (λ (l : List (Walker _)). All (λ w. IsOk w.found) l) same whole)))
