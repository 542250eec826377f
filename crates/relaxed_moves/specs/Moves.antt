-- Relaxed states and moves: what a craft can do at most, without order, combos and durability.
use Rattle.std.specs.Prelude.{ℕ, Bool, true, false, ◌≤◌, ◌≡◌, ◌+◌, ◌-◌, ◌*◌, ◌/◌, ◌&&◌, ◌||◌, ◌==◌, nat_lt, if◌then◌else◌}
use Rattle.action_table.specs.declared.action.Action.{Action}
use Rattle.action_table.specs.declared.action.Action.TheVariants.{Veneration, Innovation, GreatStrides, MuscleMemory, Reflect, ByregotsBlessing, TrainedFinesse}
use Rattle.action_table.specs.Table.{row_of}
use Rattle.craft_numbers.specs.Gains.{progress_gain_of, quality_gain_of}
use Rattle.combo_effects.specs.Combos.{duration_of}
use Rattle.combo_effects.specs.Touches.{quality_efficiency, iq_after}
use Rattle.craft_state.specs.declared.Combo.TheVariants.{Basic}
use Rattle.craft_state.specs.Craft.{StateFields}
use Rattle.craft_settings.specs.Ranges.{SettingsFields}
use Rattle.craft_settings.specs.Rules.{is_allowed}

pub record RelaxedFields : Type 0 where
  pub bucket : ℕ
  pub iq : ℕ
  pub innovation : ℕ
  pub veneration : ℕ
  pub strides : Bool
  pub muscle : Bool

-- the bounds that a relaxed state keeps
pub record AreRelaxed (x : RelaxedFields) : Type 0 where
  pub iq : x.iq ≤ 10
  pub innovation : x.innovation ≤ 4
  pub veneration : x.veneration ≤ 4

-- x has no less left to do than y, and no effect that y lacks
pub record IsNoBetter (x y : RelaxedFields) : Type 0 where
  pub bucket : y.bucket ≤ x.bucket
  pub iq : x.iq ≤ y.iq
  pub innovation : x.innovation ≤ y.innovation
  pub veneration : x.veneration ≤ y.veneration
  pub strides : x.strides ≡ true → y.strides ≡ true
  pub muscle : x.muscle ≡ true → y.muscle ≡ true

-- the action is in the list of relaxed moves; every other action is a rest
abbrev pub is_listed : SettingsFields → Action → Bool
is_listed g Veneration = is_allowed g Veneration
is_listed g Innovation = is_allowed g Innovation
is_listed g GreatStrides = is_allowed g GreatStrides
is_listed g MuscleMemory = false
is_listed g Reflect = false
is_listed g action =
    is_allowed g action && (nat_lt 0 (row_of action g.level).progress || nat_lt 0 (row_of action g.level).quality)

-- the stacks that an action needs are there
abbrev pub has_stacks : RelaxedFields → Action → Bool
has_stacks x ByregotsBlessing = nat_lt 0 x.iq
has_stacks x TrainedFinesse = x.iq == 10
has_stacks x _ = true

-- the action is a relaxed move from this state
unfoldable pub is_move_of : SettingsFields → RelaxedFields → Action → Bool
is_move_of g x action = is_listed g action && has_stacks x action

-- the progress of a bucket, rounded up
unfoldable pub unit_of : SettingsFields → ℕ → ℕ
unit_of g grain = (g.progress + grain - 1) / grain

-- what the bounds see of a state
unfoldable pub relax_of : SettingsFields → ℕ → StateFields → RelaxedFields
relax_of g grain s = record {
  bucket = (g.progress - s.progress) / unit_of g grain;
  iq = s.effects.iq;
  innovation = s.effects.innovation;
  veneration = s.effects.veneration;
  strides = nat_lt 0 s.effects.strides;
  muscle = nat_lt 0 s.effects.muscle;
}

-- the quality that a move gains
unfoldable pub move_gain_of : SettingsFields → RelaxedFields → Action → ℕ
move_gain_of g x action =
    if nat_lt 0 (row_of action g.level).quality
    then quality_gain_of g.base_quality (quality_efficiency g.level x.iq action) x.iq (nat_lt 0 x.innovation) x.strides
    else 0

-- the progress that a move gains; Groundwork always has its whole efficiency
abbrev pub move_progress : SettingsFields → RelaxedFields → Action → ℕ
move_progress g x action =
    progress_gain_of g.base_progress (row_of action g.level).progress (nat_lt 0 x.veneration) x.muscle

abbrev pub move_innovation : ℕ → Action → ℕ
move_innovation n Innovation = duration_of Innovation
move_innovation n _ = n - 1

abbrev pub move_veneration : ℕ → Action → ℕ
move_veneration n Veneration = duration_of Veneration
move_veneration n _ = n - 1

abbrev pub move_strides : SettingsFields → Bool → Action → Bool
move_strides g on GreatStrides = true
move_strides g on action = if nat_lt 0 (row_of action g.level).quality then false else on

-- the relaxed state after a move; a bucket is rounded down, and a touch adds stacks as after a Basic Touch
unfoldable pub move_on_of : SettingsFields → ℕ → RelaxedFields → Action → RelaxedFields
move_on_of g grain x action = record {
  bucket = (x.bucket * unit_of g grain - move_progress g x action) / unit_of g grain;
  iq = if nat_lt 0 (row_of action g.level).quality then iq_after g.level x.iq Basic action else x.iq;
  innovation = move_innovation x.innovation action;
  veneration = move_veneration x.veneration action;
  strides = move_strides g x.strides action;
  muscle = if nat_lt 0 (row_of action g.level).progress then false else x.muscle;
}
