-- What the pass answers, and how it leaves the seats.
use Rattle.std.specs.Prelude.{ℕ, List, Option, Some, None, ◌≡◌, ◌≤◌, ◌<◌, ◌+◌, length, take, slice_index_or}
use Rattle.action_table.specs.declared.action.Action.{Action}
use Rattle.craft_state.specs.Craft.{StateFields}
use Rattle.craft_settings.specs.Ranges.{SettingsFields}
use Rattle.step_rules.specs.Legality.{start_of}
use Rattle.step_rules.specs.Macro.{counted, Completes, IsReached}
use Rattle.step_rules.specs.Run.{run_of}
use Rattle.macro_order.specs.Order.{NothingCompletes}
use Rattle.prefix_fronts.specs.Prefix.{IsGreatest}
use Rattle.relaxed_moves.specs.Optimum.{option_le, limit_of}
use Rattle.relaxed_moves.specs.declared.places.TheConstants.{BUCKET_STATES}
use Rattle.worker_gate.specs.Cut.{cut}
use Rattle.seat_tables.specs.Seats.{SeatFields, StillSees}
use Rattle.quality_bound.specs.declared.truth.QualityTruth.{QualityTruth}
use Rattle.quality_bound.specs.Seen.{SeesEffects}

-- the greatest quality of a complete legal macro, and none where no legal macro completes
abbrev pub IsGreatestQuality : SettingsFields → Option ℕ → Type 0
IsGreatestQuality g None = NothingCompletes g
IsGreatestQuality g (Some q) = IsReached g q × IsGreatest g q

-- no complete legal macro has more quality than the limit of any of its own proper prefixes of an action or more
abbrev pub LimitsHold : SettingsFields → ℕ → Type 0
LimitsHold g grain = (m : List Action) (whole : Completes g (start_of g) m) (k : ℕ) (s : StateFields) → 1 ≤ k → k < length m
    → run_of g (start_of g) (take k m) ≡ Some s → option_le (Some (counted g whole.last)) (limit_of g grain s)

-- each seat has seen what the seat at its place had seen
abbrev pub AllStillSee : List (SeatFields QualityTruth) → List (SeatFields QualityTruth) → Type 0
AllStillSee before after =
    (k : ℕ) (d : SeatFields QualityTruth) → k < length before
    → StillSees (slice_index_or before k d).view (slice_index_or after k d).view

-- the effects numbers are cut among the seats, and each seat has seen the places of this budget that have one of its own
abbrev pub AllSeeBudget : ℕ → ℕ → List (SeatFields QualityTruth) → Type 0
AllSeeBudget grain budget seats =
    let count = length seats in
    (k : ℕ) (d : SeatFields QualityTruth) → k < count
    → SeesEffects grain budget (cut BUCKET_STATES count k) (cut BUCKET_STATES count (k + 1)) (slice_index_or seats k d).view

-- the same of each budget up to one
abbrev pub AllSeeBudgets : ℕ → ℕ → List (SeatFields QualityTruth) → Type 0
AllSeeBudgets grain most seats = (budget : ℕ) → budget ≤ most → AllSeeBudget grain budget seats

-- the floor of each seat is this quality, where there is one
abbrev pub HaveFloor : Option ℕ → List (SeatFields QualityTruth) → Type 0
HaveFloor None seats = Unit {0}
HaveFloor (Some q) seats = (k : ℕ) (d : SeatFields QualityTruth) → k < length seats → (slice_index_or seats k d).view.floor ≡ Some q
