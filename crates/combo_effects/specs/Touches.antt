-- What a touch gains by Inner Quiet, and the stacks that it leaves.
use Rattle.std.specs.Prelude.{ℕ, ◌+◌, ◌*◌, nat_le, min, if◌then◌else◌}
use Rattle.action_table.specs.declared.action.Action.{Action}
use Rattle.action_table.specs.declared.action.Action.TheVariants.{ByregotsBlessing, RefinedTouch}
use Rattle.action_table.specs.Table.{row_of}
use Rattle.craft_state.specs.declared.Combo.{Combo}
use Rattle.craft_state.specs.declared.Combo.TheVariants.{Basic}

-- the quality efficiency at so many stacks
abbrev pub quality_efficiency : (level iq : ℕ) → Action → ℕ
quality_efficiency level iq ByregotsBlessing = 100 + 20 * iq
quality_efficiency level iq action = (row_of action level).quality

-- the stacks that a touch adds
abbrev pub stacks_of : ℕ → Combo → Action → ℕ
stacks_of level Basic RefinedTouch = 2
stacks_of level combo action = (row_of action level).stacks

-- the stacks after a touch: from level 11 on it adds its own, up to ten, and Byregot's Blessing takes all
abbrev pub iq_after : (level iq : ℕ) → Combo → Action → ℕ
iq_after level iq combo ByregotsBlessing = 0
iq_after level iq combo action = if nat_le 11 level then min 10 (iq + stacks_of level combo action) else iq
