-- Columns: the buckets of one first number and one set of effects.
use Rattle.std.specs.Prelude.{ℕ, ◌+◌, Option, Some, None}
use Rattle.relaxed_moves.specs.Moves.{RelaxedFields}

-- an optimum in a row: 0 where there is none, else one more
abbrev pub coded : Option ℕ → ℕ
coded None = 0
coded (Some most) = 1 + most

-- the relaxed state of a bucket, with the effects of another
abbrev pub at_bucket : RelaxedFields → ℕ → RelaxedFields
at_bucket x bucket = record x { bucket = bucket }
