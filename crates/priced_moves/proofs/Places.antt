-- The place of an action in the list of moves.
use Rattle.std.proofs.Common.{true, false, ◌≡◌, refl}
use Rattle.action_table.specs.declared.action.Action.{Action}
use Rattle.action_table.specs.declared.action.Action.TheVariants.{BasicSynthesis, CarefulSynthesis}
use Rattle.action_table.specs.Table.{row_of}
use Rattle.craft_state.specs.declared.Combo.{Combo}
use Rattle.craft_settings.specs.Ranges.{SettingsFields}
use Rattle.craft_settings.specs.Rules.{is_allowed}
use Rattle.combo_effects.specs.Combos.{cp_cost_of}
use Rattle.priced_moves.specs.Moves.{is_halved, cp_of, efficiency_of}

-- an allowed action has its own place
pub own-place : (g : SettingsFields) (a : Action) → is_allowed g a ≡ true → is_halved g a ≡ false
own-place g CarefulSynthesis allowed = rw allowed refl
own-place g BasicSynthesis allowed = refl
own-place g _ allowed = refl

pub own-cp : (g : SettingsFields) (combo : Combo) (a : Action) → is_allowed g a ≡ true → cp_of g combo a ≡ cp_cost_of a g.level combo
own-cp g combo a allowed = rw (own-place g a allowed) refl

pub own-efficiency : (g : SettingsFields) (a : Action) → is_allowed g a ≡ true → efficiency_of g a ≡ (row_of a g.level).progress
own-efficiency g a allowed = rw (own-place g a allowed) refl
