-- What the words of the quality table say.
use Rattle.std.specs.Prelude.{ℕ}
use Rattle.std.proofs.Common.{arith}
use Rattle.craft_settings.specs.Ranges.{SettingsFields, AreSettings, IsFromTo}
use Rattle.race_core.specs.declared.entry.Entry.{Entry}
use Rattle.relaxed_moves.specs.Budget.{cost_of, start_potential_of}
use Rattle.relaxed_moves.specs.Optimum.{opt}
use Rattle.relaxed_moves.specs.Places.{first_at, state_at}
use Rattle.relaxed_moves.proofs.Costs.{ArePriced-cost, start_small}
use Rattle.table_bound.specs.Bounds.{BoundRules, AreBoundRules, entry_by}

-- no relaxed move costs less
abbrev pub least_cost : ℕ
least_cost = 10

-- each move takes its cost from the budget, which is at most the potential of the start
abbrev pub quality_rules : SettingsFields → ℕ → BoundRules
quality_rules g grain = record { g = g; grain = grain; price = cost_of g; least = least_cost; most = start_potential_of g }

-- the entry of a place says the budget optimum
abbrev pub quality_entry : SettingsFields → ℕ → ℕ → Entry
quality_entry g grain place = entry_by (opt g grain (first_at grain place) (state_at grain place))

pub are_quality_rules : (g : SettingsFields) (grain : ℕ) → AreSettings g → IsFromTo 1 64 grain → AreBoundRules (quality_rules g grain)
are_quality_rules g grain settings range =
    record { settings = settings; grain = range; priced = ArePriced-cost g settings; positive = omega arith; most = start_small g settings }
