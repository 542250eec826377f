use Rattle.std.proofs.Common.{◌≡◌, ◌≤◌, ◌<◌, ◌-◌, ℕ, Some, length, take}
use Rattle.craft_state.specs.Craft.{StateFields}
use Rattle.step_rules.specs.Legality.{IsWithin, start_of}
use Rattle.step_rules.specs.Run.{run_of}
use Rattle.level_search.specs.Searching.{HasSeen, IsSearcherOf, StillSearches}
use Rattle.level_search.proofs.ask_way.Given as goal

abbrev pub invariant-loop-k : goal.invariant-loop-k
invariant-loop-k l = record {
  within : IsWithin l.aim.g.now l.state;
  ran : run_of l.aim.g.now (start_of l.aim.g.now) (take (l.k - 1) l.actions) ≡ Some l.state;
  of : IsSearcherOf l.aim.quality.now l.aim.steps.now l.searcher;
  still : StillSearches l.fn.searcher l.searcher;
  seen : (j : ℕ) (s : StateFields) → 1 ≤ j → j < l.k → run_of l.aim.g.now (start_of l.aim.g.now) (take j l.actions) ≡ Some s
      → HasSeen l.aim.g.now l.aim.grain (length l.actions - j) s l.searcher;
}
