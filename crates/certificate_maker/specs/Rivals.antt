-- Which node of the next level is the first that dominates another.
use Rattle.std.specs.Prelude.{ℕ, Bool, Option, Some, None, List, [], ◌∷◌, ◌≡◌, ◌+◌, ◌<◌, ◌%◌, ◌&&◌, ◌||◌, ◌==◌, nat_lt, length, filter, slice_index_or, if◌then◌else◌}
use Rattle.action_table.specs.Table.{number_of}
use Rattle.craft_state.specs.Craft.{StateFields}
use Rattle.craft_state.specs.NotLess.{is_not_less}
use Rattle.pareto_front.specs.declared.node.Node.{Node}
use Rattle.pareto_front.specs.Keys.{key_of}
use Rattle.certificate_maker.specs.declared.rivals.Rival.{Rival}

-- the state is not less, and it took fewer seconds, or as many and comes before in action order
unfoldable pub outdoes : Node → Node → Bool
outdoes a b = is_not_less a.state b.state
    && (nat_lt a.seconds b.seconds || (a.seconds == b.seconds
    && (nat_lt a.parent b.parent || (a.parent == b.parent && nat_lt (number_of a.action) (number_of b.action)))))

-- states with the same progress and effects are in one bucket
unfoldable pub bucket_of : StateFields → ℕ → ℕ
bucket_of s count = key_of s % count

-- the nodes with their places, counted on from one
abbrev pub numbered : ℕ → List Node → List Rival
numbered place [] = []
numbered place (node ∷ nodes) = record { place = place; node = node } ∷ numbered (place + 1) nodes

-- those in a bucket, of so many
abbrev pub rivals_in : List Node → ℕ → ℕ → List Rival
rivals_in next count bucket = filter (λ r. bucket_of r.node.state count == bucket) (numbered 0 next)

-- each bucket has its nodes, in order
pub record AreBuckets (next : List Node) (buckets : List (List Rival)) : Type 0 where
  pub some : 0 < length buckets
  pub each : (bucket : ℕ) → bucket < length buckets → slice_index_or buckets bucket [] ≡ rivals_in next (length buckets) bucket

-- the place of the first that outdoes a node
abbrev pub first_over : List Rival → Node → Option ℕ
first_over [] c = None
first_over (r ∷ rivals) c = if outdoes r.node c then Some r.place else first_over rivals c

-- the same of the bucket of the node
abbrev pub over_in : List (List Rival) → Node → Option ℕ
over_in buckets c = first_over (slice_index_or buckets (bucket_of c.state (length buckets)) []) c
