-- By what prices and in what units a craft is reckoned.
use Rattle.std.specs.Prelude.{ℕ, ◌≤◌, ◌+◌, ◌*◌}
use Rattle.craft_settings.specs.Ranges.{SettingsFields, AreSettings}
use Rattle.craft_settings.specs.Rules.{cap_of}
use Rattle.priced_moves.specs.declared.kinds.Prices.{Prices}
use Rattle.priced_moves.specs.declared.kinds.Units.{Units}
use Rattle.priced_moves.specs.Moves.{AreSmallUnits, progress_units}
use Rattle.priced_moves.specs.Prices.{AreFair, AreSmall}
use Rattle.priced_graph.specs.Sights.{sights_of, node_count}
use Rattle.priced_bound.specs.declared.choices.TheConstants.{MOST_WORTH}
use Rattle.priced_bound.specs.declared.reckoning.TheConstants.{MOST_NEED}

-- a craft, its prices and its units
pub record ReckoningFields : Type 0 where
  pub g : SettingsFields
  pub prices : Prices
  pub units : Units

-- the units of progress that the craft takes
abbrev pub need_of : ReckoningFields → ℕ
need_of r = progress_units r.units r.g.progress

-- the prices are fair, the progress takes few units, and the quality that counts is no more than a word tells
pub record AreReckoned (r : ReckoningFields) : Type 0 where
  pub settings : AreSettings r.g
  pub fair : AreFair r.g r.prices
  pub prices : AreSmall r.prices
  pub units : AreSmallUnits r.units
  pub few : need_of r ≤ MOST_NEED
  pub cap : cap_of r.g ≤ r.units.quality * MOST_WORTH

-- how many words a table takes: one for each budget, sight and need
abbrev pub words_of : ReckoningFields → ℕ → ℕ
words_of r top = (top + 1) * (node_count (sights_of r.g) * (need_of r + 1))
