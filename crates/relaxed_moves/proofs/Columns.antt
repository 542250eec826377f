-- A column of buckets: every bucket of one budget and one set of effects.
use Rattle.std.proofs.Common.{ℕ, true, false, Option, Some, None, ◌≡◌, ◌≤◌, ◌<◌, ◌+◌, ◌-◌, ◌*◌, ◌/◌, ◌==◌, max, nat_le, subst, refl, arith, if◌then◌else◌}
use Rattle.std.specs.Option.{option_map}
use Rattle.std.proofs.lemmas.Nat.{div-add-mod', le-div, div_below, mod_below}
use Rattle.action_table.specs.declared.action.Action.{Action}
use Rattle.action_table.specs.declared.action.Action.TheVariants.{BasicSynthesis}
use Rattle.craft_settings.specs.Ranges.{SettingsFields}
use Rattle.relaxed_moves.specs.Columns.{coded, at_bucket}
use Rattle.relaxed_moves.specs.Moves.{RelaxedFields, is_move_of, move_gain_of, move_progress, move_on_of, unit_of}
use Rattle.relaxed_moves.specs.Optimum.{option_max}

pub coded-max : (a b : Option ℕ) → coded (option_max a b) ≡ max (coded a) (coded b)
coded-max None b = omega arith
coded-max (Some a) None = omega arith
coded-max (Some a) (Some b) = omega arith

pub coded-gain : (gain : ℕ) (o : Option ℕ) → coded (option_map (λ n. gain + n) o) ≡ (if coded o == 0 then 0 else coded o + gain)
coded-gain gain None = refl
coded-gain gain (Some a) = grind arith

-- the buckets that a gain takes
abbrev pub shift_of : (u gain : ℕ) → ℕ
shift_of u gain = (gain + u - 1) / u

low_case : (k d u gain : ℕ) → 0 < u → k * u < gain + u → (k + d) * u - gain < (d + 1) * u
low_case k d u gain positive tight = omega arith

high_case : (b e u gain : ℕ) → 0 < u → (b + 1 + e) * u < gain + u → b * u - gain < (0 + 1) * u
high_case b e u gain positive tight = omega arith

up_again : (k b : ℕ) → nat_le k b ≡ true → k + (b - k) ≡ b
up_again k b h = grind arith

passes : (k b : ℕ) → nat_le k b ≡ false → k ≡ b + 1 + (k - b - 1)
passes k b h = grind arith

gone : (k b : ℕ) → nat_le k b ≡ false → 0 ≡ b - k
gone k b h = grind arith

-- at most b - k whole buckets are left
below_shift : (b u gain k : ℕ) → 0 < u → k * u < gain + u → b * u - gain < (b - k + 1) * u
below_shift b u gain k positive tight =
    elim (nat_le k b) as (λ t. nat_le k b ≡ t → b * u - gain < (b - k + 1) * u) [
      | true ↦ λ e. subst (λ (n : ℕ). n * u - gain < (b - k + 1) * u) (up_again k b e) (low_case k (b - k) u gain positive tight)
      | false ↦ λ e.
          subst (λ (n : ℕ). b * u - gain < (n + 1) * u) (gone k b e)
          (high_case b (k - b - 1) u gain positive (subst (λ (n : ℕ). n * u < gain + u) (passes k b e) tight))
    ] refl

low_left : (k d u gain : ℕ) → gain ≤ k * u → d * u ≤ (k + d) * u - gain
low_left k d u gain covers = omega arith

-- and at least so many
above_shift : (b u gain k : ℕ) → gain < k * u + 1 → (b - k) * u ≤ b * u - gain
above_shift b u gain k covers =
    elim (nat_le k b) as (λ t. nat_le k b ≡ t → (b - k) * u ≤ b * u - gain) [
      | true ↦ λ e. subst (λ (n : ℕ). (b - k) * u ≤ n * u - gain) (up_again k b e) (low_left k (b - k) u gain (omega arith))
      | false ↦ λ e. subst (λ (n : ℕ). n * u ≤ b * u - gain) (gone k b e) (omega arith)
    ] refl

-- a move goes down by so many buckets, whatever the bucket
pub bucket-shift : (b u gain : ℕ) → 0 < u → (b * u - gain) / u ≡ b - shift_of u gain
bucket-shift b u gain positive =
    let whole = div-add-mod' (gain + u - 1) u in
    let part = mod_below (gain + u - 1) u positive in
    let high : (b * u - gain) / u < b - (gain + u - 1) / u + 1 = div_below (b * u - gain) u (b - (gain + u - 1) / u + 1) positive (below_shift b u gain ((gain + u - 1) / u) positive (omega arith)) in
    let low : b - (gain + u - 1) / u ≤ (b * u - gain) / u = le-div (b - (gain + u - 1) / u) (b * u - gain) u positive (above_shift b u gain ((gain + u - 1) / u) (omega arith)) in
    omega arith

-- a move takes a whole column of buckets to another column, shifted
pub move_on-column : (g : SettingsFields) (grain b : ℕ) (x : RelaxedFields) (a : Action) → 0 < unit_of g grain →
    move_on_of g grain (at_bucket x b) a ≡ at_bucket (move_on_of g grain x a) (b - shift_of (unit_of g grain) (move_progress g x a))
unfolding move_on_of
move_on-column g grain b x a positive = λ i. record {
  bucket = bucket-shift b (unit_of g grain) (move_progress g x a) positive i;
  iq = (move_on_of g grain x a).iq;
  innovation = (move_on_of g grain x a).innovation;
  veneration = (move_on_of g grain x a).veneration;
  strides = (move_on_of g grain x a).strides;
  muscle = (move_on_of g grain x a).muscle;
}

-- whether it may be made, and what it gains, are the same for the whole column
pub is_move-column : (g : SettingsFields) (b : ℕ) (x : RelaxedFields) (a : Action) → is_move_of g (at_bucket x b) a ≡ is_move_of g x a
unfolding is_move_of
is_move-column g b x BasicSynthesis = refl
is_move-column g b x _ = refl

pub move_gain-column : (g : SettingsFields) (b : ℕ) (x : RelaxedFields) (a : Action) → move_gain_of g (at_bucket x b) a ≡ move_gain_of g x a
unfolding move_gain_of
move_gain-column g b x a = refl
