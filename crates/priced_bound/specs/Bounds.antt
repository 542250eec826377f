-- What a table tells of a state, and the tests that it serves.
use Rattle.std.specs.Prelude.{ℕ, Bool, true, List, [], ◌∷◌, Option, Some, ◌≡◌, ◌+◌, ◌*◌, ◌&&◌, ◌||◌, not, nat_le, nat_lt, min, if◌then◌else◌}
use Rattle.std.specs.Option.{option_map}
use Rattle.craft_settings.specs.Ranges.{SettingsFields}
use Rattle.craft_settings.specs.Rules.{cap_of}
use Rattle.craft_state.specs.Craft.{StateFields}
use Rattle.step_rules.specs.Legality.{IsWithin}
use Rattle.prefix_fronts.specs.Prefix.{Test}
use Rattle.priced_moves.specs.Moves.{seen_of}
use Rattle.priced_moves.specs.Prices.{worth_of}
use Rattle.relaxed_moves.specs.Optimum.{is_enough}
use Rattle.priced_moves.specs.Optimum.{limit_of}
use Rattle.priced_graph.specs.Sights.{is_seen_in, sights_of}
use Rattle.priced_bound.specs.Reckoned.{ReckoningFields, AreReckoned}
use Rattle.priced_bound.specs.declared.reckoning.TheConstants.{MOST_LEFT, MOST_PROMISE}
use Rattle.priced_bound.specs.Tables.{table_best}

-- a table: by what it is reckoned, and its greatest budget
pub record BoundFields : Type 0 where
  pub by : ReckoningFields
  pub top : ℕ

-- its effects are among those that the craft's allowed actions lead to
abbrev pub has_sight : ReckoningFields → StateFields → Bool
has_sight r s = is_seen_in (sights_of r.g) (seen_of r.g r.units s)

-- the table tells of the state with so many steps left: the first step is done, and the steps, what they and the state's
-- means are worth, and its effects are within the table
abbrev pub is_told : BoundFields → StateFields → ℕ → Bool
is_told b s left =
    not s.effects.first && (nat_le left MOST_LEFT && (nat_le (worth_of b.by.prices s left) b.top && has_sight b.by s))

-- the quality that a macro through the state can reach at most with so many steps left; all that counts where the table
-- doesn't tell
unfoldable pub limit_in : BoundFields → StateFields → ℕ → Option ℕ
limit_in b s left = if is_told b s left then limit_of b.by.prices b.by.g b.by.units s left else Some (cap_of b.by.g)

-- the state's quality after so many units of gain, cut
abbrev pub promise_of : ReckoningFields → StateFields → Option ℕ → Option ℕ
promise_of r s gain = option_map (λ n. min MOST_PROMISE (s.quality + r.units.quality * n)) gain

-- the same with the quality that doesn't count too: that of the state after all that the table says can still be gained
unfoldable pub promise_in : BoundFields → StateFields → ℕ → Option ℕ
promise_in b s left =
    if is_told b s left
    then promise_of b.by s (table_best b.by (worth_of b.by.prices s left) (seen_of b.by.g b.by.units s))
    else Some (cap_of b.by.g)

-- with so many steps left, the state may still lead to the target: before the first step always, and later where a
-- step is left and its limit isn't below the target
unfoldable pub passes : BoundFields → (target : ℕ) → Test
passes b target left s = s.effects.first || (nat_lt 0 left && is_enough target (limit_in b s left))

-- the state passes the test of each table
abbrev pub all_pass : List BoundFields → (target : ℕ) → Test
all_pass [] target left s = true
all_pass (b ∷ rest) target left s = passes b target left s && all_pass rest target left s

-- the state is one of each table's craft
abbrev pub IsWithinEach : List BoundFields → StateFields → Type 0
IsWithinEach [] s = Unit {0}
IsWithinEach (b ∷ rest) s = IsWithin b.by.g s × IsWithinEach rest s

-- each table is one of the craft, by prices and units that serve
abbrev pub AreTablesOf : SettingsFields → List BoundFields → Type 0
AreTablesOf g [] = Unit {0}
AreTablesOf g (b ∷ rest) = ((b.by.g ≡ g) × AreReckoned b.by) × AreTablesOf g rest
