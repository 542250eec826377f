-- What the priced bounds see of a state, and the moves between what is seen.
use Rattle.std.specs.Prelude.{ℕ, Bool, false, ◌≤◌, ◌≡◌, ◌⊎◌, ◌+◌, ◌-◌, ◌*◌, ◌/◌, ◌&&◌, nat_lt, if◌then◌else◌, not, ◌||◌}
use Rattle.action_table.specs.declared.action.Action.{Action}
use Rattle.action_table.specs.declared.action.Action.TheVariants.{Observe, CarefulSynthesis, Groundwork}
use Rattle.action_table.specs.Table.{row_of}
use Rattle.craft_numbers.specs.Gains.{progress_gain_of}
use Rattle.craft_state.specs.declared.Combo.{Combo}
use Rattle.craft_state.specs.declared.Combo.TheVariants.{NoCombo}
use Rattle.craft_state.specs.Craft.{StateFields}
use Rattle.craft_settings.specs.Ranges.{SettingsFields}
use Rattle.craft_settings.specs.Rules.{is_allowed}
use Rattle.combo_effects.specs.Combos.{next_combo, cp_cost_of}
use Rattle.combo_effects.specs.Touches.{iq_after}
use Rattle.relaxed_moves.specs.Moves as relaxed
use Rattle.priced_moves.specs.declared.kinds.Units.{Units}

-- what is seen of a state: the progress that is left in units, the effects that change gains and prices, and whether
-- progress was begun where all touches come first
pub record SeenFields : Type 0 where
  pub need : ℕ
  pub iq : ℕ
  pub innovation : ℕ
  pub veneration : ℕ
  pub strides : Bool
  pub muscle : Bool
  pub combo : Combo
  pub begun : Bool

-- the bounds that it keeps
pub record AreSeen (x : SeenFields) : Type 0 where
  pub iq : x.iq ≤ 10
  pub innovation : x.innovation ≤ 4
  pub veneration : x.veneration ≤ 4

-- the same without the combo: a relaxed state whose buckets are units
abbrev pub plain : SeenFields → relaxed.RelaxedFields
plain x = record {
  bucket = x.need;
  iq = x.iq;
  innovation = x.innovation;
  veneration = x.veneration;
  strides = x.strides;
  muscle = x.muscle;
}

-- x has no less left to do than y, no effect that y lacks, and no combo or that of y; and where it may still touch, so may y
pub record IsNoAbler (x y : SeenFields) : Type 0 where
  pub plain : relaxed.IsNoBetter (plain x) (plain y)
  pub combo : (x.combo ≡ NoCombo) ⊎ (x.combo ≡ y.combo)
  pub begun : x.begun ≡ false → y.begun ≡ false

-- the units make sense
pub record AreUnits (units : Units) : Type 0 where
  pub progress : 1 ≤ units.progress
  pub quality : 1 ≤ units.quality

-- and are small enough to reckon with
pub record AreSmallUnits (units : Units) : Type 0 where
  pub progress : 1 ≤ units.progress
  pub share : units.share ≤ 10000
  pub quality : 1 ≤ units.quality

-- a quotient rounded up
abbrev pub ceiling : (n k : ℕ) → ℕ
ceiling n k = (n + k - 1) / k

-- the action is in the list of priced moves; every other action is a rest. Where Careful Synthesis isn't allowed, its
-- place in the list is that of a Groundwork whose durability doesn't last
abbrev pub is_listed : SettingsFields → Action → Bool
is_listed g Observe = is_allowed g Observe
is_listed g CarefulSynthesis = is_allowed g CarefulSynthesis || is_allowed g Groundwork
is_listed g action = relaxed.is_listed g action

-- the action's place in the list is that of a Groundwork whose durability doesn't last: ten points of durability, its
-- CP, and half of its progress
abbrev pub is_halved : SettingsFields → Action → Bool
is_halved g CarefulSynthesis = not (is_allowed g CarefulSynthesis)
is_halved g _ = false

-- the CP that a move takes after a combo
abbrev pub cp_of : SettingsFields → Combo → Action → ℕ
cp_of g combo action = if is_halved g action then cp_cost_of Groundwork g.level combo else cp_cost_of action g.level combo

-- the progress efficiency of a move; Groundwork's own place has its whole one
abbrev pub efficiency_of : SettingsFields → Action → ℕ
efficiency_of g action =
    if is_halved g action then (row_of Groundwork g.level).progress / 2 else (row_of action g.level).progress

-- the points of progress that a move gains
abbrev pub progress_of : SettingsFields → SeenFields → Action → ℕ
progress_of g x action = progress_gain_of g.base_progress (efficiency_of g action) (nat_lt 0 x.veneration) x.muscle

-- no touch comes after progress was begun
abbrev pub is_in_time : SettingsFields → SeenFields → Action → Bool
is_in_time g x action = not (x.begun && nat_lt 0 (row_of action g.level).quality)

-- the action is a move from this state
unfoldable pub is_move_of : SettingsFields → SeenFields → Action → Bool
is_move_of g x action = is_listed g action && (relaxed.has_stacks (plain x) action && is_in_time g x action)

-- so many points of progress in units, rounded up
abbrev pub progress_units : Units → ℕ → ℕ
progress_units units points = ceiling (points * units.share) units.progress

-- so many points of quality in units, rounded up
abbrev pub quality_units : Units → ℕ → ℕ
quality_units units points = ceiling points units.quality

-- what is seen of a state
unfoldable pub seen_of : SettingsFields → Units → StateFields → SeenFields
seen_of g units s = record {
  need = progress_units units (g.progress - s.progress);
  iq = s.effects.iq;
  innovation = s.effects.innovation;
  veneration = s.effects.veneration;
  strides = nat_lt 0 s.effects.strides;
  muscle = nat_lt 0 s.effects.muscle;
  combo = s.effects.combo;
  begun = g.backload && nat_lt 0 s.progress;
}

-- the units of quality that a move gains
unfoldable pub gain_of : SettingsFields → Units → SeenFields → Action → ℕ
gain_of g units x action = quality_units units (relaxed.move_gain_of g (plain x) action)

-- the units of progress that a move takes off
abbrev pub shift_of : SettingsFields → Units → SeenFields → Action → ℕ
shift_of g units x action = progress_units units (progress_of g x action)

-- what is seen after a move
unfoldable pub move_on_of : SettingsFields → Units → SeenFields → Action → SeenFields
move_on_of g units x action = record {
  need = x.need - shift_of g units x action;
  iq = if nat_lt 0 (row_of action g.level).quality then iq_after g.level x.iq x.combo action else x.iq;
  innovation = relaxed.move_innovation x.innovation action;
  veneration = relaxed.move_veneration x.veneration action;
  strides = relaxed.move_strides g x.strides action;
  muscle = if nat_lt 0 (row_of action g.level).progress then false else x.muscle;
  combo = next_combo x.combo action;
  begun = x.begun || (g.backload && nat_lt 0 (row_of action g.level).progress);
}
