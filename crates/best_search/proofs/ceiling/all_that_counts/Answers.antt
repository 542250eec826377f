use Rattle.best_search.proofs.Free.{is-guide}
use Rattle.best_search.proofs.ceiling.all_that_counts.Goals as goal

pub quick_from-requires-clause-looks : goal.quick_from-requires-clause-looks
quick_from-requires-clause-looks c κs =
    is-guide c.args.g.now c.args.coarse.now.table c.args.from.now c.cap.result c.cap.ensures c.requires.table c.requires.open
