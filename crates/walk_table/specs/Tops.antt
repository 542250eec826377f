-- The word of a budget, a node and a need, as a least upper bound over all walks.
use Rattle.std.specs.Prelude.{ℕ, Bool, true, List, [], ◌∷◌, ◌≤◌, ◌<◌, ◌+◌, nat_lt, min, length, slice_index, if◌then◌else◌}
use Rattle.walk_table.specs.Graph.{GraphFields}
use Rattle.walk_table.specs.Walks.{is_able, total_gain}
use Rattle.walk_table.specs.Words.{greatest_word}

-- the word of a walk: 0 where it isn't able, else 1 more than what it gains, cut
abbrev pub word_of : GraphFields → ℕ → ℕ → ℕ → List ℕ → ℕ
word_of g budget node need walk = if is_able g budget node need walk then min greatest_word (1 + total_gain g walk) else 0

-- the least number that is no less than any word
pub record IsTop (word : List ℕ → ℕ) (top : ℕ) : Type 0 where
  pub upper : (walk : List ℕ) → word walk ≤ top
  pub least : (bound : ℕ) → ((walk : List ℕ) → word walk ≤ bound) → top ≤ bound

-- the first edge of the walk, if it has one, stands before the place
abbrev pub begins_before : ℕ → List ℕ → Bool
begins_before place [] = true
begins_before place (k ∷ rest) = nat_lt k place

-- the same for the walks whose first edge stands before the place
abbrev pub word_before : GraphFields → ℕ → ℕ → ℕ → ℕ → List ℕ → ℕ
word_before g budget node need place walk = if begins_before place walk then word_of g budget node need walk else 0

-- the column of a budget and a node
pub record IsColumn (g : GraphFields) (budget node : ℕ) (column : List ℕ) : Type 0 where
  pub at : (need : ℕ) → need < length column → IsTop (word_of g budget node need) (slice_index column need)

-- the same where the walks that begin before the place were taken in
pub record IsColumnBefore (g : GraphFields) (budget node place : ℕ) (column : List ℕ) : Type 0 where
  pub at : (need : ℕ) → need < length column → IsTop (word_before g budget node need place) (slice_index column need)
