-- What a hole of a format writes is the text in its column.
use Rattle.std.proofs.Common.{◌≡◌, ℕ, ◌-◌, ◌∷◌, length, refl, ap, arith, zero, suc, encode_utf8, append-nil}
use Rattle.std.specs.Fmt.{padded, padded_integral, char_count, take_chars, decimal}
use Rattle.std.specs.List.{repeat}
use lib.Utf8
use Rattle.action_table.specs.declared.action.Action.{Action}
use Rattle.action_table.specs.Table.{display_name_of}
use Rattle.action_table.specs.declared.action.Action.TheVariants.{BasicSynthesis, BasicTouch, MastersMend, Observe, WasteNot, Veneration, StandardTouch, GreatStrides, Innovation, WasteNotII, ByregotsBlessing, MuscleMemory, CarefulSynthesis, Manipulation, PrudentTouch, Reflect, PreparatoryTouch, Groundwork, DelicateSynthesis, AdvancedTouch, PrudentSynthesis, TrainedFinesse, RefinedTouch, ImmaculateMend, TrainedPerfection, TrainedEye}
use Rattle.craft_state.specs.Craft.{StateFields}
use Rattle.replay_report.specs.Columns.{spaces, left, right}
use Rattle.replay_report.specs.Holes.{number_hole, text_hole, column_holes}
use Rattle.replay_report.specs.Lines.{columns_of}

are_spaces : (n : ℕ) → repeat {A = ℕ} n (encode_utf8 32) ≡ spaces n
unfolding lib.Utf8.encode
are_spaces zero = refl
are_spaces (suc n) = ap (λ t. 32 ∷ t) (are_spaces n)

pub number_hole_is : (width n : ℕ) → number_hole width n ≡ right width n
unfolding padded_integral char_count
number_hole_is width n =
    let ds = decimal n in
    let none : width - length ds - 0 - 0 - (width - length ds - 0 - 0) ≡ 0 = omega arith in
    let pad : width - length ds - 0 - 0 ≡ width - length ds = omega arith in
    rw (none, pad) (rw (are_spaces (width - length ds)) (simp append-nil))

name_hole_is : (action : Action) → text_hole 20 (display_name_of action) ≡ left 20 (display_name_of action)
unfolding padded take_chars char_count lib.Utf8.encode
name_hole_is BasicSynthesis = refl
name_hole_is BasicTouch = refl
name_hole_is MastersMend = refl
name_hole_is Observe = refl
name_hole_is WasteNot = refl
name_hole_is Veneration = refl
name_hole_is StandardTouch = refl
name_hole_is GreatStrides = refl
name_hole_is Innovation = refl
name_hole_is WasteNotII = refl
name_hole_is ByregotsBlessing = refl
name_hole_is MuscleMemory = refl
name_hole_is CarefulSynthesis = refl
name_hole_is Manipulation = refl
name_hole_is PrudentTouch = refl
name_hole_is Reflect = refl
name_hole_is PreparatoryTouch = refl
name_hole_is Groundwork = refl
name_hole_is DelicateSynthesis = refl
name_hole_is AdvancedTouch = refl
name_hole_is PrudentSynthesis = refl
name_hole_is TrainedFinesse = refl
name_hole_is RefinedTouch = refl
name_hole_is ImmaculateMend = refl
name_hole_is TrainedPerfection = refl
name_hole_is TrainedEye = refl

pub column_holes_are : (number : ℕ) (action : Action) (after : StateFields) →
    column_holes number (display_name_of action) after.progress after.quality after.durability after.cp ≡ columns_of number action after
column_holes_are number action after =
    rw (number_hole_is 3 number, name_hole_is action, number_hole_is 7 after.progress, number_hole_is 7 after.quality, number_hole_is 4 after.durability, number_hole_is 5 after.cp)
