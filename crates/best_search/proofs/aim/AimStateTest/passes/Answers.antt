use Rattle.best_search.proofs.Tabled.{these-refuse, those-decide, within-each}
use Rattle.best_search.proofs.aim.AimStateTest.passes.Goals as goal

pub all_reach-requires : goal.all_reach-requires
all_reach-requires c =
    let a = c.args.self.now in
    within-each a.goal.g.now a.tables.now c.args.s.now a.of c.requires.within

pub all_reach-requires-then-all_reach : goal.all_reach-requires-then-all_reach
all_reach-requires-then-all_reach c =
    let a = c.args.self.now in
    within-each a.goal.g.now a.goal.filled.now c.args.s.now a.goal.tables c.requires.within

pub returns-then-all_reach-clause-value : goal.returns-then-all_reach-clause-value
returns-then-all_reach-clause-value c =
    let a = c.args.self.now in
    those-decide a.tables.now a.goal.filled.now a.goal.target c.args.left c.args.s.now c.all_reach.result c.all_reach-then-all_reach.result
    c.all_reach.ensures c.if-all_reach.true c.all_reach-then-all_reach.ensures

pub returns-else-all_reach-clause-value : goal.returns-else-all_reach-clause-value
returns-else-all_reach-clause-value c =
    let a = c.args.self.now in
    these-refuse a.tables.now a.goal.filled.now a.goal.target c.args.left c.args.s.now c.all_reach.result c.all_reach.ensures c.if-all_reach.false
