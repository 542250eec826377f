-- Certificates of the best macro. Why one is enough: each macro that completes the craft begins with the empty prefix, and
-- each of its prefixes that is kept has a verdict for the next action. Followed from level to level, its verdicts end with
-- one that says why it is no better than the macro of the certificate: it is complete and no better, it has failed, its
-- limit is too low, it takes too many steps, or a kept prefix dominates it, and then a macro that is as good goes on from
-- that one. The last level keeps none, so that no macro is left.
use Rattle.std.specs.Prelude.{ℕ, ◌≡◌, List, [], ◌∷◌, Some}
use Rattle.action_table.specs.declared.action.Action.{Action}
use Rattle.craft_settings.specs.Ranges.{SettingsFields, AreSettings, IsFromTo}
use Rattle.macro_order.specs.declared.scores.Score.{Score}
use Rattle.macro_order.specs.Order.{score_of, IsBest}
use Rattle.prefix_fronts.specs.Prefix.{empty_prefix}
use Rattle.certificate_text.specs.Text.{Certificate, IsText}
use Rattle.certificate_laws.specs.Claims.{LevelsHold}

-- the macro of the certificate completes the craft, and each verdict holds, level by level from the empty prefix on
pub record IsValid (g : SettingsFields) (certificate : Certificate) : Type 0 where
  pub range : IsFromTo 1 64 certificate.grain
  pub score : Score
  pub completes : score_of g certificate.actions ≡ Some score
  pub hold : LevelsHold
      (record { g = g; grain = certificate.grain; actions = certificate.actions; score = score })
      (empty_prefix g ∷ []) certificate.levels

-- the bytes are the text of a valid certificate of this macro
pub record IsCertificate (g : SettingsFields) (bytes : List ℕ) (actions : List Action) : Type 0 where
  pub certificate : Certificate
  pub text : IsText certificate bytes
  pub named : certificate.actions ≡ actions
  pub valid : IsValid g certificate

-- the macro of a valid certificate is the best
abbrev pub certificates_are_sound : Type 0
certificates_are_sound =
    (g : SettingsFields) (certificate : Certificate) → AreSettings g → IsValid g certificate → IsBest g certificate.actions
