-- The place of an action in the list of moves.
use Rattle.std.proofs.Common.{true, false, ◌≡◌, ◌≤◌, nat_lt, arith}
use Rattle.action_table.specs.declared.action.Action.{Action}
use Rattle.action_table.specs.declared.action.Action.TheVariants.{BasicSynthesis, Observe, CarefulSynthesis, Groundwork}
use Rattle.craft_state.specs.declared.Combo.{Combo}
use Rattle.craft_state.specs.Craft.{StateFields}
use Rattle.craft_settings.specs.Ranges.{SettingsFields}
use Rattle.craft_settings.specs.Rules.{is_allowed}
use Rattle.combo_effects.specs.Combos.{cp_cost_of}
use Rattle.step_rules.specs.Step.{wear_at, progress_efficiency}
use Rattle.relaxed_moves.specs.Moves as relaxed
use Rattle.priced_moves.specs.Moves.{is_listed, cp_of, efficiency_of}

-- the moves of the bounds without prices are moves here
pub listed-relaxed : (g : SettingsFields) (a : Action) → is_listed g a ≡ false → relaxed.is_listed g a ≡ false
listed-relaxed g Observe rest = grind arith
listed-relaxed g CarefulSynthesis rest = grind arith
listed-relaxed g BasicSynthesis rest = rest
listed-relaxed g _ rest = rest

pub relaxed-listed : (g : SettingsFields) (a : Action) → relaxed.is_listed g a ≡ true → is_listed g a ≡ true
relaxed-listed g Observe listed = grind arith
relaxed-listed g CarefulSynthesis listed = grind arith
relaxed-listed g BasicSynthesis listed = listed
relaxed-listed g _ listed = listed

-- the place of Careful Synthesis does no less than a Groundwork whose durability doesn't last, for no more
pub careful-listed : (g : SettingsFields) → is_allowed g Groundwork ≡ true → is_listed g CarefulSynthesis ≡ true
careful-listed g allowed = grind arith

pub careful-cp : (g : SettingsFields) (combo : Combo) → cp_of g combo CarefulSynthesis ≤ cp_cost_of Groundwork g.level combo
careful-cp g combo = grind arith

pub careful-efficiency : (g : SettingsFields) (s : StateFields) → nat_lt s.durability (wear_at g s Groundwork) ≡ true →
    progress_efficiency g s Groundwork ≤ efficiency_of g CarefulSynthesis
careful-efficiency g s short = rw short (grind arith)
