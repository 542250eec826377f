use Rattle.best_search.proofs.Free.{is-outlook}
use Rattle.best_search.proofs.ceiling.greatest.Goals as goal

pub greatest_from-requires-clause-looks : goal.greatest_from-requires-clause-looks
greatest_from-requires-clause-looks c κs =
    is-outlook c.args.g.now c.args.free.now c.args.from.now c.requires.table c.requires.open
