-- What a legal action does to a state. Every test is of the state before the step.
use Rattle.std.specs.Prelude.{ℕ, false, ◌+◌, ◌-◌, ◌*◌, ◌/◌, ◌&&◌, nat_lt, min, if◌then◌else◌}
use Rattle.action_table.specs.declared.action.Action.{Action}
use Rattle.action_table.specs.declared.action.Action.TheVariants.{Groundwork, TrainedEye, Manipulation, MastersMend, ImmaculateMend}
use Rattle.action_table.specs.Table.{row_of}
use Rattle.craft_numbers.specs.Gains.{progress_gain_of, quality_gain_of}
use Rattle.craft_state.specs.declared.Perfection.TheVariants.{Spent}
use Rattle.craft_state.specs.Craft.{EffectFields, StateFields}
use Rattle.craft_settings.specs.Ranges.{SettingsFields}
use Rattle.combo_effects.specs.Touches.{quality_efficiency, iq_after}
use Rattle.combo_effects.specs.Combos.{cp_cost_of, wear_of, is_on, tick_of, after_of}
use Rattle.step_rules.specs.Legality.{is_over}

-- what the action wears
abbrev pub wear_at : SettingsFields → StateFields → Action → ℕ
wear_at g s action = wear_of (row_of action g.level).durability s.effects

-- the progress efficiency, halved for Groundwork where the durability doesn't last
abbrev pub progress_efficiency : SettingsFields → StateFields → Action → ℕ
progress_efficiency g s Groundwork =
    if nat_lt s.durability (wear_at g s Groundwork)
    then (row_of Groundwork g.level).progress / 2
    else (row_of Groundwork g.level).progress
progress_efficiency g s action = (row_of action g.level).progress

-- the progress after the action's own gain
abbrev pub progress_after : SettingsFields → StateFields → Action → ℕ
progress_after g s action =
    if nat_lt 0 (row_of action g.level).progress
    then
    min g.progress
    (s.progress
    + progress_gain_of g.base_progress (progress_efficiency g s action) (nat_lt 0 s.effects.veneration) (nat_lt 0 s.effects.muscle))
    else s.progress

-- the quality that a touch gains
abbrev pub touch_gain : SettingsFields → EffectFields → Action → ℕ
touch_gain g e action =
    quality_gain_of g.base_quality (quality_efficiency g.level e.iq action) e.iq (nat_lt 0 e.innovation) (nat_lt 0 e.strides)

-- the quality after the action's own gain
abbrev pub quality_after : SettingsFields → StateFields → Action → ℕ
quality_after g s TrainedEye = g.quality
quality_after g s action =
    if nat_lt 0 (row_of action g.level).quality
    then
    min g.quality (s.quality + touch_gain g s.effects action)
    else s.quality

-- the effects after what the action does at once
abbrev pub used_effects : SettingsFields → EffectFields → Action → EffectFields
used_effects g e action = record e {
  iq = if nat_lt 0 (row_of action g.level).quality then iq_after g.level e.iq e.combo action else e.iq;
  strides = if nat_lt 0 (row_of action g.level).quality then 0 else e.strides;
  muscle = if nat_lt 0 (row_of action g.level).progress then 0 else e.muscle;
  perfection = if is_on e.perfection && nat_lt 0 (row_of action g.level).durability then Spent else e.perfection;
  first = false;
}

-- what the action does at once: the price, the wear, the quality and the progress
unfoldable pub acted_of : SettingsFields → StateFields → Action → StateFields
acted_of g s action = record {
  cp = s.cp - cp_cost_of action g.level s.effects.combo;
  durability = s.durability - wear_at g s action;
  progress = progress_after g s action;
  quality = quality_after g s action;
  effects = used_effects g s.effects action;
}

-- the durability that Manipulation gives back
abbrev pub upkeep : EffectFields → Action → ℕ
upkeep e Manipulation = 0
upkeep e action = if nat_lt 0 e.manipulation then 5 else 0

-- the durability that the action itself gives back
abbrev pub mend : SettingsFields → Action → ℕ
mend g MastersMend = 30
mend g ImmaculateMend = g.durability
mend g action = 0

-- what follows where the craft goes on: upkeep, time, the action's own effect and the combo
unfoldable pub settled_of : SettingsFields → EffectFields → Action → StateFields → StateFields
settled_of g before action s = record s {
  durability = min g.durability (min g.durability (s.durability + upkeep before action) + mend g action);
  effects = after_of (tick_of s.effects) action;
}

-- the state after a legal action; a craft that is over stays as the action left it
unfoldable pub step_of : SettingsFields → StateFields → Action → StateFields
step_of g s action =
    if is_over g (acted_of g s action)
    then acted_of g s action
    else settled_of g s.effects action (acted_of g s action)
