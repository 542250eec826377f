use Rattle.std.proofs.Common.{arith}
use Rattle.best_search.specs.Looking.{test_of}
use Rattle.best_search.proofs.Tabled.{limits-of, one-table}
use Rattle.best_search.proofs.Taking.{not-through, takes-more}
use Rattle.best_search.proofs.lengths.first_length.Goals as goal

pub loop-n-preserved : goal.loop-n-preserved
loop-n-preserved c =
    let goal = c.args.goal.now in
    let tables = c.tables.result.now in
    record {
      some = omega arith;
      few = omega arith;
      low =
          takes-more goal.g.now goal.from.now goal.target c.loop-n.n c.loop-n.invariant.low
          (not-through goal.g.now goal.from.now goal.target (test_of goal.target tables goal.filled.now) c.loop-n.n c.lets_through.result goal.open
          (limits-of goal.g.now goal.target tables goal.filled.now (one-table goal.g.now c.args.coarse.now.table tables c.requires.table c.tables.ensures) goal.tables) c.lets_through.ensures c.if-not-lets_through.true);
    }
