-- A craft with other base qualities.
use Rattle.std.specs.Prelude.{ℕ, List, Some, ◌≡◌, ◌≤◌}
use Rattle.action_table.specs.declared.action.Action.{Action}
use Rattle.craft_state.specs.Craft.{StateFields}
use Rattle.craft_settings.specs.Ranges.{SettingsFields}
use Rattle.craft_settings.specs.Rules.{cap_of}
use Rattle.step_rules.specs.Legality.{start_of}
use Rattle.step_rules.specs.Run.{run_of}
use Rattle.step_rules.specs.Macro.{IsReached}

-- the settings with this base quality in place of their own
abbrev pub with_base : SettingsFields → ℕ → SettingsFields
with_base g base = record g { base_quality = base }

-- with this base quality some complete legal macro has all the quality that counts
abbrev pub IsEnough : SettingsFields → ℕ → Type 0
IsEnough g base = IsReached (with_base g base) (cap_of g)

-- the list is legal, and ends in a state that differs from the given one in quality alone and has no less of it
pub record EndsNoLess (g : SettingsFields) (m : List Action) (s : StateFields) : Type 0 where
  pub quality : ℕ
  pub ends : run_of g (start_of g) m ≡ Some (record s { quality = quality })
  pub more : s.quality ≤ quality

-- what is legal with the one base quality is so with the other, and its last state has no less quality there
abbrev pub LosesNoQuality : SettingsFields → ℕ → ℕ → Type 0
LosesNoQuality g base other =
    (m : List Action) (s : StateFields) → run_of (with_base g base) (start_of g) m ≡ Some s → EndsNoLess (with_base g other) m s
