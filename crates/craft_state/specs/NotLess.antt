-- A state that is not less than another.
use Rattle.std.specs.Prelude.{Bool, true, false, not, ◌≡◌, ◌≤◌, ◌==◌, ◌&&◌, nat_le}
use Rattle.craft_state.specs.Craft.{EffectFields, StateFields}
use Rattle.craft_state.specs.Pack.{combo_number, perfection_number}

-- progress and effects are equal, and CP, durability and quality are not less
pub record IsNotLess (a b : StateFields) : Type 0 where
  pub progress : a.progress ≡ b.progress
  pub effects : a.effects ≡ b.effects
  pub cp : b.cp ≤ a.cp
  pub durability : b.durability ≤ a.durability
  pub quality : b.quality ≤ a.quality

abbrev pub same_bool : Bool → Bool → Bool
same_bool true b = b
same_bool false b = not b

-- the same as tests, for lists of states
unfoldable pub same_effects : EffectFields → EffectFields → Bool
same_effects a b =
    a.iq == b.iq && a.waste == b.waste && a.innovation == b.innovation && a.veneration == b.veneration && a.strides == b.strides &&
    a.muscle == b.muscle && a.manipulation == b.manipulation && combo_number a.combo == combo_number b.combo &&
    perfection_number a.perfection == perfection_number b.perfection && same_bool a.first b.first

unfoldable pub is_not_less : StateFields → StateFields → Bool
is_not_less a b =
    a.progress == b.progress && same_effects a.effects b.effects && nat_le b.cp a.cp && nat_le b.durability a.durability &&
    nat_le b.quality a.quality
