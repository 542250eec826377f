-- A relaxed state that is no better gains no more.
use Rattle.std.proofs.Common.{ℕ, Bool, true, false, List, [], ◌∷◌, Option, Some, None, ◌≡◌, ◌≤◌, ◌<◌, ◌+◌, ◌-◌, ◌*◌, ◌/◌, ◌&&◌, ◌==◌, nat_lt, nat_le, refl, arith, if◌then◌else◌}
use Rattle.craft_state.specs.Craft.{StateFields, AreEffects}
use Rattle.std.proofs.lemmas.Nat.{le-div, div-add-mod', mul-le}
use Rattle.std.specs.Option.{option_map}
use Rattle.action_table.specs.declared.action.Action.{Action}
use Rattle.action_table.specs.declared.action.Action.TheVariants.{ByregotsBlessing, TrainedFinesse, GreatStrides, Innovation, Veneration}
use Rattle.action_table.specs.Table.{row_of}
use Rattle.craft_numbers.specs.Gains.{bonus_of, progress_gain_of, quality_gain_of}
use Rattle.combo_effects.specs.Touches.{quality_efficiency, iq_after}
use Rattle.craft_state.specs.declared.Combo.TheVariants.{Basic}
use Rattle.craft_settings.specs.Ranges.{SettingsFields}
use Rattle.relaxed_moves.specs.Moves.{RelaxedFields, AreRelaxed, IsNoBetter, is_listed, has_stacks, is_move_of, move_gain_of, move_innovation, move_veneration, move_strides, move_progress, move_on_of, unit_of, relax_of}
use Rattle.relaxed_moves.specs.Optimum.{option_le, ArePriced, worth, best_plan}
use Rattle.relaxed_moves.proofs.Greatest.{option_le-trans}
use Rattle.relaxed_moves.proofs.Plans.{worth-nil, worth-cons, best_plan-upper, best_plan-least}
use Rattle.plain_lemmas.proofs.Numbers.{if_le, if_bound, positive_more, none_left}
use Rattle.plain_lemmas.proofs.Tests.{off_more, and_then}

pub div-more : (a b k : ℕ) → 0 < k → a ≤ b → a / k ≤ b / k
div-more a b k positive more = le-div (a / k) b k positive (omega (arith, div-add-mod' a k))

pub bonus-more : (a b : Bool) (p : ℕ) → (a ≡ true → b ≡ true) → bonus_of a p ≤ bonus_of b p
bonus-more true true p h = omega arith
bonus-more true false p h = let e : false ≡ true = h refl in absurd (cc)
bonus-more false b p h = omega arith

pub progress_gain-more : (base p p' : ℕ) (v v' w w' : Bool) → p ≤ p' → (v ≡ true → v' ≡ true) → (w ≡ true → w' ≡ true) →
    progress_gain_of base p v w ≤ progress_gain_of base p' v' w'
progress_gain-more base p p' v v' w w' more veneration muscle =
    let percent : 100 + bonus_of v 50 + bonus_of w 100 ≤ 100 + bonus_of v' 50 + bonus_of w' 100 = omega (arith, bonus-more v v' 50 veneration, bonus-more w w' 100 muscle) in
    div-more _ _ 10000 (omega arith) (mul-le _ _ _ _ (mul-le base p base p' (omega arith) more) percent)

pub quality_gain-more : (base q q' iq iq' : ℕ) (v v' w w' : Bool) → q ≤ q' → iq ≤ iq' → (v ≡ true → v' ≡ true) → (w ≡ true → w' ≡ true) →
    quality_gain_of base q iq v w ≤ quality_gain_of base q' iq' v' w'
quality_gain-more base q q' iq iq' v v' w w' more stacks innovation strides =
    let percent : 100 + bonus_of v 50 + bonus_of w 100 ≤ 100 + bonus_of v' 50 + bonus_of w' 100 = omega (arith, bonus-more v v' 50 innovation, bonus-more w w' 100 strides) in
    let whole : 100 + 10 * iq ≤ 100 + 10 * iq' = omega arith in
    div-more _ _ 1000000 (omega arith) (mul-le _ _ _ _ (mul-le _ _ _ _ (mul-le base q base q' (omega arith) more) whole) percent)

efficiency-more : (g : SettingsFields) (n m : ℕ) (a : Action) → n ≤ m → quality_efficiency g.level n a ≤ quality_efficiency g.level m a
efficiency-more g n m ByregotsBlessing more = omega arith
efficiency-more g n m _ more = omega arith

pub move_gain-more : (g : SettingsFields) (x y : RelaxedFields) (a : Action) → IsNoBetter x y → move_gain_of g x a ≤ move_gain_of g y a
unfolding move_gain_of
move_gain-more g x y a worse =
    if_le (nat_lt 0 (row_of a g.level).quality) _ _ _ _
    (quality_gain-more g.base_quality _ _ x.iq y.iq _ _ _ _ (efficiency-more g x.iq y.iq a worse.iq) worse.iq (positive_more _ _ worse.innovation) worse.strides)
    (omega arith)

bucket-more : (u b b' p p' : ℕ) → 0 < u → b' ≤ b → p ≤ p' → (b' * u - p') / u ≤ (b * u - p) / u
bucket-more u b b' p p' positive less more =
    let whole : b' * u ≤ b * u = mul-le b' u b u less (omega arith) in
    div-more _ _ u positive (omega arith)

iq-more : (g : SettingsFields) (n m : ℕ) (a : Action) → n ≤ m → iq_after g.level n Basic a ≤ iq_after g.level m Basic a
iq-more g n m ByregotsBlessing more = omega arith
iq-more g n m _ more = if_le (nat_le 11 g.level) _ _ _ _ (omega arith) more

innovation-more : (n m : ℕ) (a : Action) → n ≤ m → move_innovation n a ≤ move_innovation m a
innovation-more n m Innovation more = omega arith
innovation-more n m _ more = omega arith

veneration-more : (n m : ℕ) (a : Action) → n ≤ m → move_veneration n a ≤ move_veneration m a
veneration-more n m Veneration more = omega arith
veneration-more n m _ more = omega arith

strides-more : (g : SettingsFields) (s t : Bool) (a : Action) → (s ≡ true → t ≡ true) → move_strides g s a ≡ true → move_strides g t a ≡ true
strides-more g s t GreatStrides h k = refl
strides-more g s t a h k = off_more (nat_lt 0 (row_of a g.level).quality) s t h k

-- moving on keeps the order
pub move_on-no_better : (g : SettingsFields) (grain : ℕ) (x y : RelaxedFields) (a : Action) → 0 < unit_of g grain → IsNoBetter x y →
    IsNoBetter (move_on_of g grain x a) (move_on_of g grain y a)
unfolding move_on_of
move_on-no_better g grain x y a positive worse = record {
  bucket = bucket-more (unit_of g grain) x.bucket y.bucket (move_progress g x a) (move_progress g y a) positive worse.bucket
      (progress_gain-more g.base_progress _ _ _ _ _ _ (omega arith) (positive_more _ _ worse.veneration) worse.muscle);
  iq = if_le (nat_lt 0 (row_of a g.level).quality) _ _ _ _ (iq-more g x.iq y.iq a worse.iq) worse.iq;
  innovation = innovation-more x.innovation y.innovation a worse.innovation;
  veneration = veneration-more x.veneration y.veneration a worse.veneration;
  strides = strides-more g x.strides y.strides a worse.strides;
  muscle = off_more (nat_lt 0 (row_of a g.level).progress) x.muscle y.muscle worse.muscle;
}

iq_bound : (g : SettingsFields) (n : ℕ) (a : Action) → n ≤ 10 → iq_after g.level n Basic a ≤ 10
iq_bound g n ByregotsBlessing h = omega arith
iq_bound g n _ h = grind arith

innovation_bound : (n : ℕ) (a : Action) → n ≤ 4 → move_innovation n a ≤ 4
innovation_bound n Innovation h = omega arith
innovation_bound n _ h = omega arith

veneration_bound : (n : ℕ) (a : Action) → n ≤ 4 → move_veneration n a ≤ 4
veneration_bound n Veneration h = omega arith
veneration_bound n _ h = omega arith

pub AreRelaxed-move_on : (g : SettingsFields) (grain : ℕ) (x : RelaxedFields) (a : Action) → AreRelaxed x → AreRelaxed (move_on_of g grain x a)
unfolding move_on_of
AreRelaxed-move_on g grain x a bounds = record {
  iq = if_bound (nat_lt 0 (row_of a g.level).quality) _ _ 10 (iq_bound g x.iq a bounds.iq) bounds.iq;
  innovation = innovation_bound x.innovation a bounds.innovation;
  veneration = veneration_bound x.veneration a bounds.veneration;
}

stacks-more : (x y : RelaxedFields) (a : Action) → x.iq ≤ y.iq → y.iq ≤ 10 → has_stacks x a ≡ true → has_stacks y a ≡ true
stacks-more x y ByregotsBlessing more bound h = grind arith
stacks-more x y TrainedFinesse more bound h = grind arith
stacks-more x y _ more bound h = refl

pub is_move-more : (g : SettingsFields) (x y : RelaxedFields) (a : Action) → IsNoBetter x y → AreRelaxed y → is_move_of g x a ≡ true → is_move_of g y a ≡ true
unfolding is_move_of
is_move-more g x y a worse bounds h = and_then (is_listed g a) (has_stacks x a) (has_stacks y a) (stacks-more x y a worse.iq bounds.iq) h

may-more : (m m' : Bool) (p b b' : ℕ) → (m ≡ true → m' ≡ true) → b ≤ b' → (m && nat_le p b) ≡ true → (m' && nat_le p b') ≡ true
may-more true true p b b' h more k = grind arith
may-more true false p b b' h more k = let e : false ≡ true = h refl in absurd (cc)
may-more false m' p b b' h more k = absurd (cc)

pub step_le : (c c' : Bool) (s s' : ℕ) (o o' : Option ℕ) → (c ≡ true → c' ≡ true) → s ≤ s' → option_le o o' →
    option_le (if c then option_map (λ n. s + n) o else None) (if c' then option_map (λ n. s' + n) o' else None)
step_le false c' s s' o o' h more le = tt
step_le true false s s' o o' h more le = let e : false ≡ true = h refl in absurd (cc)
step_le true true s s' None o' h more le = tt
step_le true true s s' (Some a) None h more le = absurd le
step_le true true s s' (Some a) (Some b) h more le = omega arith

pub empty_by : (c c' : Bool) → (c ≡ true → c' ≡ true) → option_le (if c then Some 0 else None) (if c' then Some 0 else None)
empty_by true true h = omega arith
empty_by true false h = let e : false ≡ true = h refl in absurd (cc)
empty_by false c' h = tt

empty_le : (b b' : ℕ) → b' ≤ b → option_le (if b == 0 then Some 0 else None) (if b' == 0 then Some 0 else None)
empty_le b b' less = empty_by (b == 0) (b' == 0) (none_left b b' less)

-- a list gains no more from a state that is no better, with no greater budget
pub worth-no_better : (price : Action → ℕ) (g : SettingsFields) (grain budget budget' : ℕ) (x y : RelaxedFields) → 0 < unit_of g grain → budget ≤ budget' → IsNoBetter x y → AreRelaxed y → (m : List Action) →
    option_le (worth price g grain budget x m) (worth price g grain budget' y m)
worth-no_better price g grain budget budget' x y positive more worse bounds [] =
    rw (worth-nil price g grain budget x, worth-nil price g grain budget' y) (empty_le x.bucket y.bucket worse.bucket)
worth-no_better price g grain budget budget' x y positive more worse bounds (a ∷ m) =
    rw (worth-cons price g grain budget x a m, worth-cons price g grain budget' y a m)
    (step_le _ _ (move_gain_of g x a) (move_gain_of g y a) _ _
    (may-more (is_move_of g x a) (is_move_of g y a) (price a) budget budget' (is_move-more g x y a worse bounds) more)
    (move_gain-more g x y a worse)
    (worth-no_better price g grain (budget - price a) (budget' - price a) (move_on_of g grain x a) (move_on_of g grain y a) positive (omega arith) (move_on-no_better g grain x y a positive worse) (AreRelaxed-move_on g grain y a bounds) m))

-- the optimum of a state that is no better, with no greater budget, is at most the other's
pub best_plan-no_better : (price : Action → ℕ) (g : SettingsFields) (grain budget budget' : ℕ) (x y : RelaxedFields) → ArePriced price g → 0 < unit_of g grain → budget ≤ budget' → IsNoBetter x y → AreRelaxed y →
    option_le (best_plan price g grain budget x) (best_plan price g grain budget' y)
best_plan-no_better price g grain budget budget' x y priced positive more worse bounds =
    best_plan-least price g grain budget x _ (λ m. option_le-trans _ _ _ (worth-no_better price g grain budget budget' x y positive more worse bounds m) (best_plan-upper price g grain budget' y m priced))

-- what the bounds see of a state keeps its bounds
pub AreRelaxed-relax : (g : SettingsFields) (grain : ℕ) (s : StateFields) → AreEffects s.effects → AreRelaxed (relax_of g grain s)
unfolding relax_of
AreRelaxed-relax g grain s bounds = record { iq = bounds.iq; innovation = bounds.innovation; veneration = bounds.veneration }
