use Rattle.std.proofs.Common.{[], arith}
use Rattle.std.proofs.lemmas.List.Elements.{All-nil}
use Rattle.quality_sweep.proofs.Placing.{measure-most}
use Rattle.best_search.specs.Looking.{IsTable, test_of}
use Rattle.best_search.proofs.Tabled.{sought}
use Rattle.best_search.proofs.Taking.{takes-few}
use Rattle.best_search.proofs.lengths.best_of_many.Goals as goal

pub unreachable-requires : goal.unreachable-requires
unreachable-requires g c =
    let goal = c.args.goal.now in
    let looked = sought goal.g.now goal.from.now goal.target [] goal.filled.now goal.open goal.greatest (All-nil (IsTable goal.g.now)) goal.tables in
    let few = takes-few goal.g.now goal.from.now goal.target (test_of goal.target [] goal.filled.now) c.loop-low.low looked c.requires.reached c.loop-low.invariant.low in
    omega (arith, few, measure-most goal.g.now goal.from.now goal.open.within)
