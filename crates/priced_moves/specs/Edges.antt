-- The edges of a table: from what is seen without a combo, a move or a combo of moves, to what is seen without one.
use Rattle.std.specs.Prelude.{ℕ, zero, suc, List, [], ◌∷◌, Option, None, ◌+◌, ◌-◌, ◌*◌, ◌≤◌, nat_le, map, if◌then◌else◌}
use Rattle.std.specs.Option.{option_map}
use Rattle.std.specs.List.{flat_map}
use Rattle.action_table.specs.declared.action.Action.{Action}
use Rattle.action_table.specs.Table.{all_actions}
use Rattle.craft_settings.specs.Ranges.{SettingsFields}
use Rattle.relaxed_moves.specs.Optimum.{option_max}
use Rattle.priced_moves.specs.declared.kinds.Prices.{Prices}
use Rattle.priced_moves.specs.declared.kinds.Units.{Units}
use Rattle.priced_moves.specs.declared.kinds.Edge.{Edge}
use Rattle.priced_moves.specs.declared.kinds.Terms.{Terms}
use Rattle.priced_moves.specs.declared.kinds.Trail.{Trail}
use Rattle.priced_moves.specs.FirstMoves.{at_need, without_combo, continuing}
use Rattle.priced_moves.specs.Moves.{SeenFields, AreSmallUnits, is_move_of, gain_of, shift_of, move_on_of}
use Rattle.priced_moves.specs.Prices.{price_of, AreSmall}
use Rattle.priced_moves.specs.Optimum.{best}

-- the edge of a move, whose combo is let go
abbrev pub edge_of : Prices → SettingsFields → Units → SeenFields → Action → Edge
edge_of p g units x action = record {
  cost = price_of p g x.combo action;
  gain = gain_of g units x action;
  shift = shift_of g units x action;
  to = at_need (without_combo (move_on_of g units x action)) 0;
}

-- a move and then an edge
abbrev pub before_edge : Prices → SettingsFields → Units → SeenFields → Action → Edge → Edge
before_edge p g units x action edge = record {
  cost = price_of p g x.combo action + edge.cost;
  gain = gain_of g units x action + edge.gain;
  shift = shift_of g units x action + edge.shift;
  to = edge.to;
}

-- the edges whose first move is this action: the move alone, and before each edge that goes on from it
abbrev pub edges_with : Prices → SettingsFields → Units → SeenFields → Action → (further : List Edge) → List Edge
edges_with p g units x action further =
    if is_move_of g x action then edge_of p g units x action ∷ map (before_edge p g units x action) further else []

-- the edges whose first move is one of the actions; their combos are followed for so many moves
abbrev pub edges_from : ℕ → Prices → SettingsFields → Units → SeenFields → List Action → List Edge
edges_from zero p g units x actions = []
edges_from (suc n) p g units x actions =
    flat_map (λ action. edges_with p g units x action
    (edges_from n p g units (move_on_of g units x action) (continuing (move_on_of g units x action).combo))) actions

-- the edges whose first move is this action, its combo followed for so many moves
abbrev pub edges_at : ℕ → Prices → SettingsFields → Units → SeenFields → Action → List Edge
edges_at n p g units x action =
    edges_with p g units x action
    (edges_from n p g units (move_on_of g units x action) (continuing (move_on_of g units x action).combo))

-- the edges of a table; no combo goes on for more than three moves
unfoldable pub edges_of : Prices → SettingsFields → Units → SeenFields → List Edge
edges_of p g units x = edges_from 3 p g units x all_actions

-- and those that a combo adds
unfoldable pub combo_edges_of : Prices → SettingsFields → Units → SeenFields → List Edge
combo_edges_of p g units x = edges_from 2 p g units x (continuing x.combo)

-- what an edge and the best after it gain
abbrev pub edge_leads : Prices → SettingsFields → Units → ℕ → ℕ → Edge → Option ℕ
edge_leads p g units budget need edge =
    if nat_le edge.cost budget
    then option_map (λ n. edge.gain + n) (best p g units (budget - edge.cost) (at_need edge.to (need - edge.shift)))
    else None

-- the greatest over edges
abbrev pub greatest_edge : (Edge → Option ℕ) → List Edge → Option ℕ
greatest_edge f [] = None
greatest_edge f (edge ∷ rest) = option_max (f edge) (greatest_edge f rest)

-- a trail of no move, and one of a move more
abbrev pub start_trail : SeenFields → Trail
start_trail x = record { cost = 0; gain = 0; shift = 0; at = x }

abbrev pub walked : Prices → SettingsFields → Units → Trail → Action → Trail
walked p g units trail action = record {
  cost = trail.cost + price_of p g trail.at.combo action;
  gain = trail.gain + gain_of g units trail.at action;
  shift = trail.shift + shift_of g units trail.at action;
  at = move_on_of g units trail.at action;
}

-- the edge where a trail ends
abbrev pub edge_at : Trail → Edge
edge_at trail = record {
  cost = trail.cost;
  gain = trail.gain;
  shift = trail.shift;
  to = at_need (without_combo trail.at) 0;
}

-- an edge after a trail
abbrev pub onto : Trail → Edge → Edge
onto trail edge = record {
  cost = trail.cost + edge.cost;
  gain = trail.gain + edge.gain;
  shift = trail.shift + edge.shift;
  to = edge.to;
}

-- a trail costs, gains and shifts no more than so many moves do
pub record IsShort (moves : ℕ) (trail : Trail) : Type 0 where
  pub cost : trail.cost ≤ moves * 400000
  pub gain : trail.gain ≤ moves * 100000
  pub shift : trail.shift ≤ moves * 500000000

-- the prices and the units are small enough to reckon with
pub record AreSmallTerms (terms : Terms) : Type 0 where
  pub prices : AreSmall terms.prices
  pub units : AreSmallUnits terms.units
