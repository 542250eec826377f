-- What a search keeps of its searchers, and what they have seen.
use Rattle.std.specs.Prelude.{ℕ, List, Some, ◌≡◌, ◌≤◌, ◌<◌, ◌-◌, length, take, Contains}
use Rattle.action_table.specs.declared.action.Action.{Action}
use Rattle.craft_state.specs.Craft.{StateFields}
use Rattle.craft_settings.specs.Ranges.{SettingsFields}
use Rattle.step_rules.specs.Legality.{start_of}
use Rattle.step_rules.specs.Run.{run_of}
use Rattle.relaxed_moves.specs.Budget.{potential_of}
use Rattle.relaxed_moves.specs.Moves.{relax_of}
use Rattle.relaxed_moves.specs.Places.{index_of}
use Rattle.relaxed_moves.specs.declared.places.TheConstants.{MOST_MOVES}
use Rattle.seat_tables.specs.Seats.{SharedFields, IsOf, StillSees}
use Rattle.quality_bound.specs.declared.truth.QualityTruth.{QualityTruth}
use Rattle.step_bound.specs.declared.truth.StepTruth.{StepTruth}
use Rattle.level_search.specs.declared.searcher.Searcher.{Searcher}

-- both seats are of these tables
abbrev pub IsSearcherOf : SharedFields QualityTruth → SharedFields StepTruth → Searcher → Type 0
IsSearcherOf quality steps searcher = IsOf quality searcher.quality × IsOf steps searcher.steps

-- what both seats have seen stays seen
pub record StillSearches (before after : Searcher) : Type 0 where
  pub quality : StillSees before.quality.view after.quality.view
  pub steps : StillSees before.steps.view after.steps.view

-- the searcher has seen both bounds of a state, with so many actions left
pub record HasSeen (g : SettingsFields) (grain left : ℕ) (s : StateFields) (searcher : Searcher) : Type 0 where
  pub quality : Contains searcher.quality.view.seen (index_of grain (potential_of g s) (relax_of g grain s))
  pub steps : left ≤ MOST_MOVES → Contains searcher.steps.view.seen (index_of grain left (relax_of g grain s))

-- it has seen those of the state after each action but the last
abbrev pub HasSeenWay : SettingsFields → (grain : ℕ) → List Action → Searcher → Type 0
HasSeenWay g grain m searcher =
    (k : ℕ) (s : StateFields) → 1 ≤ k → k < length m → run_of g (start_of g) (take k m) ≡ Some s
    → HasSeen g grain (length m - k) s searcher
