-- What a table answers of.
use Rattle.std.specs.Prelude.{ℕ, ◌≡◌, ◌<◌, ◌+◌}
use Rattle.walk_table.specs.Graph.{GraphFields}
use Rattle.walk_table.specs.Pieces.{FilledFields}
use Rattle.walk_table.specs.Words.{greatest_word}

-- a graph, budgets up to top, needs below a number, and worths up to most
pub record TableFields : Type 0 where
  pub graph : GraphFields
  pub top : ℕ
  pub needs : ℕ
  pub most : ℕ

-- the columns of all budgets up to top
pub record IsTable (filled : FilledFields) (top most : ℕ) : Type 0 where
  pub all : filled.budgets ≡ top + 1
  pub cut : most < greatest_word
