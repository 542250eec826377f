-- The best over priced moves, as a table of walks answers it.
use Rattle.std.specs.Prelude.{ℕ, Option, None, ◌+◌, ◌-◌, nat_le, min, if◌then◌else◌}
use Rattle.std.specs.Option.{option_map}
use Rattle.craft_settings.specs.Ranges.{SettingsFields}
use Rattle.priced_moves.specs.declared.kinds.Edge.{Edge}
use Rattle.priced_moves.specs.declared.kinds.Prices.{Prices}
use Rattle.priced_moves.specs.declared.kinds.Units.{Units}
use Rattle.priced_moves.specs.FirstMoves.{at_need}
use Rattle.priced_moves.specs.Moves.{SeenFields}
use Rattle.priced_moves.specs.Optimum.{best}

-- no more than a most
abbrev pub cut : ℕ → Option ℕ → Option ℕ
cut most o = option_map (λ n. min most n) o

-- the greatest gain over all lists of moves within the budget, cut
abbrev pub best_cut : ℕ → Prices → SettingsFields → Units → ℕ → SeenFields → Option ℕ
best_cut most p g units budget x = cut most (best p g units budget x)

-- what an edge and the greatest behind it gain, cut; None where the edge isn't paid for, or leads to nothing
abbrev pub lead_cut : ℕ → Prices → SettingsFields → Units → ℕ → ℕ → Edge → Option ℕ
lead_cut most p g units budget need edge =
    if nat_le edge.cost budget
    then option_map (λ n. min most (edge.gain + n))
    (best_cut most p g units (budget - edge.cost) (at_need edge.to (need - edge.shift)))
    else None
