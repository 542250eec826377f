-- What can be seen of the states of a craft, need and combo apart, and its numbers.
use Rattle.std.specs.Prelude.{ℕ, Bool, ◌≡◌, ◌<◌, ◌+◌, ◌*◌, ◌/◌, ◌%◌, ◌==◌, ◌&&◌, nat_lt, nat_le, if◌then◌else◌}
use Rattle.action_table.specs.declared.action.Action.TheVariants.{Innovation, Veneration, GreatStrides, MuscleMemory}
use Rattle.craft_state.specs.declared.Combo.TheVariants.{NoCombo}
use Rattle.craft_settings.specs.Ranges.{SettingsFields, IsFromTo}
use Rattle.craft_settings.specs.Rules.{is_allowed}
use Rattle.relaxed_moves.specs.Places.{bit}
use Rattle.priced_moves.specs.FirstMoves.{at_need, without_combo}
use Rattle.priced_moves.specs.Moves.{SeenFields}

-- how many values each effect has
pub record SightsFields : Type 0 where
  pub iq : ℕ
  pub innovation : ℕ
  pub veneration : ℕ
  pub strides : ℕ
  pub muscle : ℕ
  pub begun : ℕ

-- each has one, and no more than effects ever have
pub record AreSights (c : SightsFields) : Type 0 where
  pub iq : IsFromTo 1 11 c.iq
  pub innovation : IsFromTo 1 5 c.innovation
  pub veneration : IsFromTo 1 5 c.veneration
  pub strides : IsFromTo 1 2 c.strides
  pub muscle : IsFromTo 1 2 c.muscle
  pub begun : IsFromTo 1 2 c.begun

-- the sights of a craft: an effect that no allowed action leads to has one value alone
unfoldable pub sights_of : SettingsFields → SightsFields
sights_of g = record {
  iq = if nat_le 11 g.level then 11 else 1;
  innovation = if is_allowed g Innovation then 5 else 1;
  veneration = if is_allowed g Veneration then 5 else 1;
  strides = if is_allowed g GreatStrides then 2 else 1;
  muscle = if is_allowed g MuscleMemory then 2 else 1;
  begun = if g.backload then 2 else 1;
}

-- the sights of all crafts
abbrev pub all_sights : SightsFields
all_sights = record { iq = 11; innovation = 5; veneration = 5; strides = 2; muscle = 2; begun = 2 }

-- the effects that are seen are among these
pub record IsSeenIn (c : SightsFields) (x : SeenFields) : Type 0 where
  pub iq : x.iq < c.iq
  pub innovation : x.innovation < c.innovation
  pub veneration : x.veneration < c.veneration
  pub strides : bit x.strides < c.strides
  pub muscle : bit x.muscle < c.muscle
  pub begun : bit x.begun < c.begun

-- the same as a test
abbrev pub is_seen_in : SightsFields → SeenFields → Bool
is_seen_in c x =
    nat_lt x.iq c.iq && (nat_lt x.innovation c.innovation && (nat_lt x.veneration c.veneration
    && (nat_lt (bit x.strides) c.strides && (nat_lt (bit x.muscle) c.muscle && nat_lt (bit x.begun) c.begun))))

-- one of the sights: it has no combo and nothing to do
pub record IsSight (c : SightsFields) (x : SeenFields) : Type 0 where
  pub within : IsSeenIn c x
  pub need : x.need ≡ 0
  pub combo : x.combo ≡ NoCombo

-- how many sights there are
abbrev pub node_count : SightsFields → ℕ
node_count c = c.iq * c.innovation * c.veneration * c.strides * c.muscle * c.begun

-- the number of what is seen: its effects are the digits
abbrev pub number_of : SightsFields → SeenFields → ℕ
number_of c x =
    ((((x.iq * c.innovation + x.innovation) * c.veneration + x.veneration) * c.strides + bit x.strides) * c.muscle + bit x.muscle) * c.begun
    + bit x.begun

-- the sight of a number
unfoldable pub seen_at : SightsFields → ℕ → SeenFields
seen_at c number = record {
  need = 0;
  iq = number / c.begun / c.muscle / c.strides / c.veneration / c.innovation;
  innovation = number / c.begun / c.muscle / c.strides / c.veneration % c.innovation;
  veneration = number / c.begun / c.muscle / c.strides % c.veneration;
  strides = number / c.begun / c.muscle % c.strides == 1;
  muscle = number / c.begun % c.muscle == 1;
  combo = NoCombo;
  begun = number % c.begun == 1;
}

-- the number of what is seen, which is among these
pub record IsNumber (c : SightsFields) (x : SeenFields) (number : ℕ) : Type 0 where
  pub within : IsSeenIn c x
  pub value : number ≡ number_of c x
  pub below : number < node_count c
  pub seen : seen_at c number ≡ at_need (without_combo x) 0
