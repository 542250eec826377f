-- Columns: the optima of all buckets, for one budget and the same effects.
use Rattle.std.specs.Prelude.{ℕ, ◌≡◌, ◌≤◌, ◌<◌, ◌+◌, ◌-◌, List, None, Contains, length, slice_index, take}
use Rattle.std.specs.Option.{option_map}
use Rattle.action_table.specs.declared.action.Action.{Action}
use Rattle.action_table.specs.Table.{all_actions}
use Rattle.race_core.specs.declared.view.View.{View}
use Rattle.relaxed_moves.specs.Columns.{coded, at_bucket}
use Rattle.relaxed_moves.specs.FirstMoves.{leads, leads_with}
use Rattle.relaxed_moves.specs.Moves.{RelaxedFields, AreRelaxed}
use Rattle.relaxed_moves.specs.Places.{index_of}
use Rattle.table_bound.specs.Bounds.{BoundRules, optimum}

-- a column stands in the table: its budget is one of the table's, x is at its highest bucket, and bucket 0 has its place
pub record IsPlaced (r : BoundRules) (budget : ℕ) (x : RelaxedFields) (bottom : ℕ) : Type 0 where
  pub bounds : AreRelaxed x
  pub of_table : budget ≤ r.most
  pub top : x.bucket ≡ r.grain
  pub place : bottom ≡ index_of r.grain budget (at_bucket x 0)

-- the row has in each place the optimum of its bucket
pub record IsColumn (r : BoundRules) (budget : ℕ) (x : RelaxedFields) (row : List ℕ) : Type 0 where
  pub at : (bucket : ℕ) → bucket < length row → slice_index row bucket ≡ coded (optimum r budget (at_bucket x bucket))

-- the row has the optima of the buckets from a place on
pub record IsColumnFrom (r : BoundRules) (budget : ℕ) (x : RelaxedFields) (down : ℕ) (row : List ℕ) : Type 0 where
  pub at : (bucket : ℕ) → bucket + down < length row → slice_index row (bucket + down) ≡ coded (optimum r budget (at_bucket x bucket))

-- the row has in each place the optimum of the bucket that is so much lower
pub record IsLowered (r : BoundRules) (budget : ℕ) (x : RelaxedFields) (down : ℕ) (row : List ℕ) : Type 0 where
  pub at : (bucket : ℕ) → bucket < length row → slice_index row bucket ≡ coded (optimum r budget (at_bucket x (bucket - down)))

-- the row has in each place the greatest gain of the plans whose first move was tried
pub record Leads (r : BoundRules) (budget : ℕ) (x : RelaxedFields) (tried : ℕ) (row : List ℕ) : Type 0 where
  pub at : (bucket : ℕ) → bucket < length row → slice_index row bucket ≡
      coded (leads r.price r.g r.grain budget (at_bucket x bucket) (take tried all_actions))

-- the action leads to no plan, from any bucket
pub record LeadsNowhere (r : BoundRules) (budget : ℕ) (x : RelaxedFields) (action : Action) : Type 0 where
  pub at : (bucket : ℕ) → leads_with r.price r.g r.grain budget (at_bucket x bucket) action ≡ None

-- the action leads from each bucket to one that is so much lower in the next column, and gains the same in all
pub record LeadsDown (r : BoundRules) (budget : ℕ) (x : RelaxedFields) (action : Action) (rest gain down : ℕ)
    (next : RelaxedFields) : Type 0 where
  pub less : rest + r.least ≤ budget
  pub small : gain ≤ 100000
  pub low : down ≤ r.grain
  pub bounds : AreRelaxed next
  pub at : (bucket : ℕ) → bucket ≤ r.grain
      → leads_with r.price r.g r.grain budget (at_bucket x bucket) action ≡
      option_map (λ most. gain + most) (optimum r rest (at_bucket next (bucket - down)))

-- the seat has seen the places of the buckets below n
pub record SeesBuckets {T : Type 0} (n : ℕ) (r : BoundRules) (budget : ℕ) (x : RelaxedFields) (view : View T) : Type 0 where
  pub seen : (bucket : ℕ) → bucket < n → Contains view.seen (index_of r.grain budget (at_bucket x bucket))
