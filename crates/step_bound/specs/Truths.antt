-- What the words of the step table say.
use Rattle.std.specs.Prelude.{ℕ}
use Rattle.std.proofs.Common.{arith}
use Rattle.craft_settings.specs.Ranges.{SettingsFields, AreSettings, IsFromTo}
use Rattle.race_core.specs.declared.entry.Entry.{Entry}
use Rattle.relaxed_moves.specs.Optimum.{one, reach}
use Rattle.relaxed_moves.specs.Places.{first_at, state_at}
use Rattle.relaxed_moves.specs.declared.places.TheConstants.{MOST_MOVES}
use Rattle.relaxed_moves.proofs.Costs.{ArePriced-one}
use Rattle.table_bound.specs.Bounds.{BoundRules, AreBoundRules, entry_by}
use Rattle.table_bound.proofs.Fits.{moves_fit}

-- each move counts as one, and the table has budgets of up to the most moves
abbrev pub moves_rules : SettingsFields → ℕ → BoundRules
moves_rules g grain = record { g = g; grain = grain; price = one; least = 1; most = MOST_MOVES }

-- the entry of a place says the step optimum
abbrev pub moves_entry : SettingsFields → ℕ → ℕ → Entry
moves_entry g grain place = entry_by (reach g grain (first_at grain place) (state_at grain place))

pub are_moves_rules : (g : SettingsFields) (grain : ℕ) → AreSettings g → IsFromTo 1 64 grain → AreBoundRules (moves_rules g grain)
are_moves_rules g grain settings range = record { settings = settings; grain = range; priced = ArePriced-one g; positive = omega arith; most = moves_fit }
