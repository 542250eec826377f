-- What the tests ask of states.
use Rattle.std.specs.Prelude.{ℕ, Bool, ◌+◌, ◌*◌, ◌||◌, nat_le}
use Rattle.craft_state.specs.Craft.{StateFields}
use Rattle.craft_settings.specs.Ranges.{SettingsFields}

-- nothing, or that the progress may be complete after so many actions of the greatest gain
abbrev pub lets : SettingsFields → (all : Bool) → ℕ → StateFields → Bool
lets g all left s = all || nat_le g.progress (s.progress + 9 * g.base_progress * left)
