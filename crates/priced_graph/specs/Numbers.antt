-- The numbers of a craft's sights, listed by the numbers of the sights of all crafts.
use Rattle.std.specs.Prelude.{ℕ, List, ◌≡◌, ◌<◌, ◌≤◌, length, slice_index_or, if◌then◌else◌}
use Rattle.priced_moves.specs.Moves.{SeenFields}
use Rattle.priced_graph.specs.Sights.{SightsFields, all_sights, is_seen_in, node_count, number_of, seen_at}
use Rattle.priced_graph.specs.declared.numbers.TheConstants.{NO_SIGHT}

-- the number of what is seen, or one that stands for none
abbrev pub number_or_none : SightsFields → SeenFields → ℕ
number_or_none c x = if is_seen_in c x then number_of c x else NO_SIGHT

-- the first so many numbers
pub record AreListed (c : SightsFields) (count : ℕ) (numbers : List ℕ) : Type 0 where
  pub long : length numbers ≡ count
  pub at : (place d : ℕ) → place < count → slice_index_or numbers place d ≡ number_or_none c (seen_at all_sights place)

-- all of them, none of which is the number that stands for none
pub record AreNumbers (c : SightsFields) (numbers : List ℕ) : Type 0 where
  pub few : node_count c ≤ NO_SIGHT
  pub listed : AreListed c (node_count all_sights) numbers
