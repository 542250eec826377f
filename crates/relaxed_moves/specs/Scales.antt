-- What a craft and a grain give for all of its states.
use Rattle.std.specs.Prelude.{ℕ, ◌≡◌}
use Rattle.craft_settings.specs.Ranges.{SettingsFields}
use Rattle.relaxed_moves.specs.Budget.{AreWeights}
use Rattle.relaxed_moves.specs.Moves.{unit_of}
use Rattle.relaxed_moves.specs.declared.scales.Scale.{Scale}

-- the weights of the craft, and the progress of a bucket
pub record IsScale (g : SettingsFields) (grain : ℕ) (scale : Scale) : Type 0 where
  pub weights : AreWeights g scale.weights
  pub unit : scale.unit ≡ unit_of g grain
