use Rattle.std.proofs.Common.{◌≡◌, ◌+◌, length}
use Rattle.std.specs.List.{All}
use Rattle.level_search.specs.Searching.{IsSearcherOf}
use Rattle.level_search.proofs.tests.searchers.Given as goal

abbrev pub invariant-loop-turn : goal.invariant-loop-turn
invariant-loop-turn l = record {
  first : IsSearcherOf l.quality l.steps l.first;
  count : length l.all.items + 1 ≡ l._turn;
  of : All (IsSearcherOf l.quality l.steps) l.all.items;
}
