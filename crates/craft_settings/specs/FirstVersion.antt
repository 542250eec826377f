-- The first version of the settings: its list hasn't `recipe.trained_eye`, and it knows the actions before Trained Eye.
use Rattle.std.specs.Prelude.{◌≡◌, Bool, false, ℕ, List, Some, option_map, Result, IfOk}
use Rattle.std.specs.Int.{bit_at}
use Rattle.toml.specs.Data.{Members}
use Rattle.action_table.specs.declared.action.Action.TheVariants.{TrainedEye}
use Rattle.action_table.specs.Table.{number_of}
use Rattle.craft_settings.specs.declared.fault.SettingsFault.{SettingsFault}
use Rattle.craft_settings.specs.Ranges.{SettingsFields}
use Rattle.craft_settings.specs.Accepts.{IsAnswerBy}
use Rattle.craft_settings.specs.Document.{document, is_two}

-- a reader that knows the first version alone takes no document for one of the second
abbrev pub is_never_two : Members → Bool
is_never_two doc = false

-- the answer is that of a reader that knows the first version alone, and forbids Trained Eye
pub record IsFirstAnswer (bytes : List ℕ) (answer : Result SettingsFields SettingsFault) : Type 0 where
  pub read : IsAnswerBy is_never_two bytes answer
  pub no_eye : IfOk answer (λ g. bit_at g.forbidden (number_of TrainedEye) ≡ 1)

-- where the version of the document isn't 2
abbrev pub IsFirst : List ℕ → Type 0
IsFirst bytes = option_map is_two (document bytes) ≡ Some false
