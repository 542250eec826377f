-- A number that each legal step lowers.
use Rattle.std.specs.Prelude.{ℕ, ◌+◌, ◌*◌, ◌/◌}
use Rattle.craft_state.specs.declared.Perfection.{Perfection}
use Rattle.craft_state.specs.declared.Perfection.TheVariants.{Ready, On, Spent}
use Rattle.craft_state.specs.Craft.{StateFields}

abbrev pub perfection_worth : Perfection → ℕ
perfection_worth Ready = 8
perfection_worth On = 4
perfection_worth Spent = 0

-- the measure of a state
abbrev pub measure : StateFields → ℕ
measure s =
    s.cp + 4 * (s.durability / 5) + 4 * s.effects.manipulation + perfection_worth s.effects.perfection
