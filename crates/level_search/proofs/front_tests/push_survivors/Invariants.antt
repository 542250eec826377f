-- The searcher stays one of these tables.
use Rattle.level_search.specs.Searching.{IsSearcherOf}
use Rattle.level_search.proofs.front_tests.push_survivors.Given as goal

abbrev pub invariant-loop-live : goal.invariant-loop-live
invariant-loop-live l = IsSearcherOf l.tables.quality.now l.tables.steps.now l.searcher
