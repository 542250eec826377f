-- What the weights of rests are worth at most, and the price in a combo.
use Rattle.std.proofs.Common.{ℕ, true, ◌≡◌, ◌≤◌, ◌-◌, ◌/◌, arith}
use Rattle.action_table.specs.declared.action.Action.{Action}
use Rattle.action_table.specs.declared.action.Action.TheVariants.{BasicSynthesis, ImmaculateMend, Manipulation, WasteNot, WasteNotII}
use Rattle.action_table.specs.Table.{row_of}
use Rattle.craft_state.specs.declared.Combo.{Combo}
use Rattle.craft_settings.specs.Ranges.{SettingsFields}
use Rattle.craft_settings.specs.Rules.{is_allowed}
use Rattle.combo_effects.specs.Combos.{cp_cost_of}
use Rattle.relaxed_moves.specs.Budget.{rho_of, sigma_of}

pub rho-manipulation : (g : SettingsFields) → is_allowed g Manipulation ≡ true → rho_of g ≤ 12
unfolding rho_of
rho-manipulation g allowed = rw allowed (omega arith)

pub rho-mend : (g : SettingsFields) → is_allowed g ImmaculateMend ≡ true → rho_of g ≤ 112 / (g.durability / 5 - 1)
unfolding rho_of
rho-mend g allowed = rw allowed (omega arith)

pub sigma-waste : (g : SettingsFields) → is_allowed g WasteNot ≡ true → sigma_of g ≤ 14
unfolding sigma_of
sigma-waste g allowed = rw allowed (grind arith)

pub sigma-waste_more : (g : SettingsFields) → is_allowed g WasteNotII ≡ true → sigma_of g ≤ 12
unfolding sigma_of
sigma-waste_more g allowed = rw allowed (omega arith)

pub combo_cost : (a : Action) (level : ℕ) (combo : Combo) → (row_of a level).combo_cp ≤ cp_cost_of a level combo
combo_cost BasicSynthesis level combo = grind arith
combo_cost _ level combo = grind arith
