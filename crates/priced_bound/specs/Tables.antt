-- The parts of a table.
use Rattle.std.specs.Prelude.{ℕ, List, Vec, Option, ◌≡◌, ◌<◌, ◌≤◌, ◌+◌, ◌-◌, length, slice_index_or}
use Rattle.craft_state.specs.declared.Combo.{Combo}
use Rattle.craft_state.specs.declared.Combo.TheVariants.{Basic, Standard}
use Rattle.priced_moves.specs.declared.kinds.Edge.{Edge}
use Rattle.priced_moves.specs.Edges.{combo_edges_of}
use Rattle.priced_moves.specs.Moves.{SeenFields, progress_units}
use Rattle.priced_graph.specs.Graphs.{IsGraphOf}
use Rattle.priced_graph.specs.Sights.{SightsFields, sights_of, node_count, seen_at}
use Rattle.priced_graph.specs.Ties.{best_cut, lead_cut}
use Rattle.walk_table.specs.Tables.{TableFields}
use Rattle.priced_bound.specs.Reckoned.{ReckoningFields, AreReckoned, need_of}
use Rattle.priced_bound.specs.declared.choices.TheConstants.{MOST_WORTH}

-- the same with a combo
abbrev pub with_combo : SeenFields → Combo → SeenFields
with_combo x combo = record x { combo = combo }

-- the edges that a combo adds at a sight
abbrev pub combo_edges_at : ReckoningFields → Combo → ℕ → List Edge
combo_edges_at r combo node = combo_edges_of r.prices r.g r.units (with_combo (seen_at (sights_of r.g) node) combo)

-- a list for each sight below a number, of the edges that a combo adds there
pub record AreComboLists {A : Type 0} (r : ReckoningFields) (combo : Combo) (count : ℕ) (lists : List (Vec Edge A)) : Type 0 where
  pub long : length lists ≡ count
  pub at : (node : ℕ) (d : Vec Edge A) → node < count → (slice_index_or lists node d).items ≡ combo_edges_at r combo node

-- the walks of the craft's graph, for budgets up to the highest
pub record IsTableOf (r : ReckoningFields) (highest : ℕ) (t : TableFields) : Type 0 where
  pub graph : IsGraphOf r.prices r.g r.units t.graph
  pub top : t.top ≡ highest
  pub needs : t.needs ≡ need_of r + 1
  pub most : t.most ≡ MOST_WORTH

-- the units of progress that are left, by the points that are done
pub record AreNeeds (r : ReckoningFields) (needs : List ℕ) : Type 0 where
  pub long : length needs ≡ r.g.progress + 1
  pub at : (points d : ℕ) → points ≤ r.g.progress → slice_index_or needs points d ≡ progress_units r.units (r.g.progress - points)

-- what the parts of a table keep
pub record IsFilled {A : Type 0} (r : ReckoningFields) (highest : ℕ) (c : SightsFields) (left : List ℕ) (t : TableFields)
    (basics standards : List (Vec Edge A)) : Type 0 where
  pub reckoned : AreReckoned r
  pub sights : c ≡ sights_of r.g
  pub needs : AreNeeds r left
  pub table : IsTableOf r highest t
  pub basic : AreComboLists r Basic (node_count (sights_of r.g)) basics
  pub standard : AreComboLists r Standard (node_count (sights_of r.g)) standards

-- the greatest gain over all lists of moves within a budget, and what an edge and the greatest behind it gain, cut
abbrev pub table_best : ReckoningFields → ℕ → SeenFields → Option ℕ
table_best r budget x = best_cut MOST_WORTH r.prices r.g r.units budget x

abbrev pub table_lead : ReckoningFields → ℕ → ℕ → Edge → Option ℕ
table_lead r budget need edge = lead_cut MOST_WORTH r.prices r.g r.units budget need edge
