-- What can do no more gains no more.
use Rattle.std.proofs.Common.{ℕ, Bool, true, false, List, [], ◌∷◌, ◌≡◌, ◌≤◌, ◌⊎◌, inl, inr, ◌+◌, ◌-◌, ◌*◌, ◌/◌, ◌&&◌, ◌==◌, nat_lt, nat_le, refl, sym, subst, arith, if◌then◌else◌, not, ◌||◌}
use Rattle.std.proofs.lemmas.Nat.{mul-le}
use Rattle.std.proofs.Math.Nat.{mul-le-mul_left}
use Rattle.action_table.specs.declared.action.Action.{Action}
use Rattle.action_table.specs.declared.action.Action.TheVariants.{BasicSynthesis, BasicTouch, Veneration, Innovation, GreatStrides, Observe, Groundwork, ByregotsBlessing, RefinedTouch, TrainedFinesse}
use Rattle.action_table.specs.Table.{row_of}
use Rattle.craft_state.specs.declared.Combo.{Combo}
use Rattle.craft_state.specs.declared.Combo.TheVariants.{NoCombo, Basic}
use Rattle.craft_settings.specs.Ranges.{SettingsFields}
use Rattle.combo_effects.specs.Combos.{cp_cost_of, next_combo}
use Rattle.combo_effects.specs.Touches.{stacks_of, iq_after}
use Rattle.relaxed_moves.specs.Moves as relaxed
use Rattle.relaxed_moves.specs.Budget.{wear_cost}
use Rattle.relaxed_moves.specs.Optimum.{option_le}
use Rattle.relaxed_moves.proofs.Greatest.{option_le-trans}
use Rattle.relaxed_moves.proofs.Order.{move_gain-more, progress_gain-more, step_le, empty_by}
use Rattle.priced_moves.specs.declared.kinds.Prices.{Prices}
use Rattle.priced_moves.specs.declared.kinds.Units.{Units}
use Rattle.priced_moves.specs.Moves.{SeenFields, plain, IsNoAbler, AreUnits, is_listed, is_move_of, is_halved, cp_of, gain_of, progress_of, shift_of, move_on_of}
use Rattle.priced_moves.specs.Prices.{AreFair, raw_price, price_of}
use Rattle.priced_moves.specs.Optimum.{gained, best}
use Rattle.priced_moves.proofs.Plans.{best-upper, best-least}
use Rattle.priced_moves.proofs.Rounding.{ceiling-more, quotient-more}
use Rattle.plain_lemmas.proofs.Numbers.{if_le, if_bound, positive_more, none_left}
use Rattle.plain_lemmas.proofs.Tests.{off_more, and_then}

-- no combo is never cheaper
pub cost-none : (a : Action) (level : ℕ) (combo : Combo) → cp_cost_of a level combo ≤ cp_cost_of a level NoCombo
cost-none BasicSynthesis level combo = grind arith
cost-none _ level combo = grind arith

-- cases on two combos
pub combo-cases : (P : Combo → Combo → Type 0) (c d : Combo) → (c ≡ NoCombo) ⊎ (c ≡ d) → ((e : Combo) → P NoCombo e) → ((e : Combo) → P e e) → P c d
combo-cases P c d (inl none) h k = subst (λ e. P e d) (sym none) (h d)
combo-cases P c d (inr same) h k = subst (λ e. P c e) same (k c)

cp-none : (g : SettingsFields) (a : Action) (combo : Combo) → cp_of g combo a ≤ cp_of g NoCombo a
cp-none g a combo = if_le (is_halved g a) _ _ _ _ (cost-none Groundwork g.level combo) (cost-none a g.level combo)

pub cp-more : (g : SettingsFields) (a : Action) (c d : Combo) → (c ≡ NoCombo) ⊎ (c ≡ d) → cp_of g d a ≤ cp_of g c a
cp-more g a c d h = combo-cases (λ c d. cp_of g d a ≤ cp_of g c a) c d h (cp-none g a) (λ e. omega arith)

raw-more : (alpha c c' w l : ℕ) → c ≤ c' → alpha * c + w + l ≤ alpha * c' + w + l
raw-more alpha c c' w l h = let a : alpha * c ≤ alpha * c' = mul-le-mul_left alpha h in omega arith

pub price-more : (p : Prices) (g : SettingsFields) (a : Action) (c d : Combo) → 1 ≤ p.coin → (c ≡ NoCombo) ⊎ (c ≡ d) → price_of p g d a ≤ price_of p g c a
unfolding price_of
price-more p g a c d coin h =
    quotient-more (raw_price p g d a) (raw_price p g c a) p.coin coin
    (raw-more p.cp (cp_of g d a) (cp_of g c a) (wear_cost p.five p.waste ((row_of a g.level).durability / 5)) p.step (cp-more g a c d h))

-- no combo never adds more stacks
stacks-none : (g : SettingsFields) (a : Action) (combo : Combo) → stacks_of g.level NoCombo a ≤ stacks_of g.level combo a
stacks-none g RefinedTouch Basic = omega arith
stacks-none g BasicSynthesis Basic = omega arith
stacks-none g _ Basic = omega arith
stacks-none g _ _ = omega arith

stacks-more : (g : SettingsFields) (a : Action) (c d : Combo) → (c ≡ NoCombo) ⊎ (c ≡ d) → stacks_of g.level c a ≤ stacks_of g.level d a
stacks-more g a c d h = combo-cases (λ c d. stacks_of g.level c a ≤ stacks_of g.level d a) c d h (stacks-none g a) (λ e. omega arith)

iq-more : (g : SettingsFields) (n m : ℕ) (a : Action) (c d : Combo) → n ≤ m → (c ≡ NoCombo) ⊎ (c ≡ d) → iq_after g.level n c a ≤ iq_after g.level m d a
iq-more g n m ByregotsBlessing c d more h = omega arith
iq-more g n m a c d more h = let stacks = stacks-more g a c d h in if_le (nat_le 11 g.level) _ _ _ _ (omega arith) more

-- no combo leads to no combo, or to the one that each combo leads to
next-none : (a : Action) (combo : Combo) → (next_combo NoCombo a ≡ NoCombo) ⊎ (next_combo NoCombo a ≡ next_combo combo a)
next-none BasicTouch combo = inr refl
next-none Observe combo = inr refl
next-none BasicSynthesis combo = inl refl
next-none _ combo = inl refl

combo-more : (a : Action) (c d : Combo) → (c ≡ NoCombo) ⊎ (c ≡ d) → (next_combo c a ≡ NoCombo) ⊎ (next_combo c a ≡ next_combo d a)
combo-more a c d h = combo-cases (λ c d. (next_combo c a ≡ NoCombo) ⊎ (next_combo c a ≡ next_combo d a)) c d h (next-none a) (λ e. inr refl)

pub gain-more : (g : SettingsFields) (units : Units) (x y : SeenFields) (a : Action) → AreUnits units → IsNoAbler x y → gain_of g units x a ≤ gain_of g units y a
unfolding gain_of
gain-more g units x y a are less =
    ceiling-more (relaxed.move_gain_of g (plain x) a) (relaxed.move_gain_of g (plain y) a) units.quality are.quality (move_gain-more g (plain x) (plain y) a less.plain)

shift-more : (g : SettingsFields) (units : Units) (x y : SeenFields) (a : Action) → AreUnits units → IsNoAbler x y → shift_of g units x a ≤ shift_of g units y a
shift-more g units x y a are less =
    let more : progress_of g x a ≤ progress_of g y a =
    progress_gain-more g.base_progress _ _ _ _ _ _ (omega arith) (positive_more _ _ less.plain.veneration) less.plain.muscle in
    ceiling-more (progress_of g x a * units.share) (progress_of g y a * units.share) units.progress are.progress
    (mul-le (progress_of g x a) units.share (progress_of g y a) units.share more (omega arith))

innovation-more : (n m : ℕ) (a : Action) → n ≤ m → relaxed.move_innovation n a ≤ relaxed.move_innovation m a
innovation-more n m Innovation more = omega arith
innovation-more n m _ more = omega arith

veneration-more : (n m : ℕ) (a : Action) → n ≤ m → relaxed.move_veneration n a ≤ relaxed.move_veneration m a
veneration-more n m Veneration more = omega arith
veneration-more n m _ more = omega arith

strides-more : (g : SettingsFields) (s t : Bool) (a : Action) → (s ≡ true → t ≡ true) → relaxed.move_strides g s a ≡ true → relaxed.move_strides g t a ≡ true
strides-more g s t GreatStrides h k = refl
strides-more g s t a h k = off_more (nat_lt 0 (row_of a g.level).quality) s t h k

begun-more : (s t c : Bool) → (s ≡ false → t ≡ false) → (s || c) ≡ false → (t || c) ≡ false
begun-more true t c h k = absurd (cc)
begun-more false true c h k = let e : true ≡ false = h refl in absurd (cc)
begun-more false false c h k = k

-- moving on keeps the order: all but the need, the stacks and the combo move on as without units and combos
pub move_on-more : (g : SettingsFields) (units : Units) (x y : SeenFields) (a : Action) → AreUnits units → IsNoAbler x y →
    IsNoAbler (move_on_of g units x a) (move_on_of g units y a)
unfolding move_on_of
move_on-more g units x y a are less =
    let need = less.plain.bucket in
    let shift = shift-more g units x y a are less in
    record {
      plain = record {
        bucket = omega (arith, need, shift);
        iq = if_le (nat_lt 0 (row_of a g.level).quality) _ _ _ _ (iq-more g x.iq y.iq a x.combo y.combo less.plain.iq less.combo) less.plain.iq;
        innovation = innovation-more x.innovation y.innovation a less.plain.innovation;
        veneration = veneration-more x.veneration y.veneration a less.plain.veneration;
        strides = strides-more g x.strides y.strides a less.plain.strides;
        muscle = off_more (nat_lt 0 (row_of a g.level).progress) x.muscle y.muscle less.plain.muscle;
      };
      combo = combo-more a x.combo y.combo less.combo;
      begun = begun-more x.begun y.begun _ less.begun;
    }

iq_bound : (g : SettingsFields) (n : ℕ) (c : Combo) (a : Action) → n ≤ 10 → iq_after g.level n c a ≤ 10
iq_bound g n c ByregotsBlessing h = omega arith
iq_bound g n c a h = if_bound (nat_le 11 g.level) _ _ 10 (omega arith) h

pub ten-more : (g : SettingsFields) (units : Units) (x : SeenFields) (a : Action) → x.iq ≤ 10 → (move_on_of g units x a).iq ≤ 10
unfolding move_on_of
ten-more g units x a h = if_bound (nat_lt 0 (row_of a g.level).quality) _ _ 10 (iq_bound g x.iq x.combo a h) h

has-more : (x y : SeenFields) (a : Action) → x.iq ≤ y.iq → y.iq ≤ 10 → relaxed.has_stacks (plain x) a ≡ true → relaxed.has_stacks (plain y) a ≡ true
has-more x y ByregotsBlessing more bound h = grind arith
has-more x y TrainedFinesse more bound h = grind arith
has-more x y _ more bound h = refl

time-more : (s t c : Bool) → (s ≡ false → t ≡ false) → not (s && c) ≡ true → not (t && c) ≡ true
time-more true t true h k = absurd (cc)
time-more true true false h k = refl
time-more true false false h k = refl
time-more false true c h k = let e : true ≡ false = h refl in absurd (cc)
time-more false false c h k = refl

and_more : (a b c d : Bool) → (a ≡ true → c ≡ true) → (b ≡ true → d ≡ true) → (a && b) ≡ true → (c && d) ≡ true
and_more true b c d h k l = rw (h refl) (k l)
and_more false b c d h k l = absurd (cc)

pub is_move-more : (g : SettingsFields) (x y : SeenFields) (a : Action) → IsNoAbler x y → y.iq ≤ 10 → is_move_of g x a ≡ true → is_move_of g y a ≡ true
unfolding is_move_of
is_move-more g x y a less bound h =
    and_then (is_listed g a) _ _
    (and_more _ _ _ _ (has-more x y a less.plain.iq bound) (time-more x.begun y.begun (nat_lt 0 (row_of a g.level).quality) less.begun)) h

may-more : (m m' : Bool) (p p' b b' : ℕ) → (m ≡ true → m' ≡ true) → p' ≤ p → b ≤ b' → (m && nat_le p b) ≡ true → (m' && nat_le p' b') ≡ true
may-more true true p p' b b' h less more k = grind arith
may-more true false p p' b b' h less more k = let e : false ≡ true = h refl in absurd (cc)
may-more false m' p p' b b' h less more k = absurd (cc)

-- a list gains no more from what can do no more, with no greater budget
pub gained-more : (p : Prices) (g : SettingsFields) (units : Units) (budget budget' : ℕ) (x y : SeenFields) (m : List Action) → AreFair g p → AreUnits units → budget ≤ budget' → IsNoAbler x y → y.iq ≤ 10 →
    option_le (gained p g units budget x m) (gained p g units budget' y m)
gained-more p g units budget budget' x y [] fair are more less bound =
    empty_by (x.need == 0) (y.need == 0) (none_left x.need y.need less.plain.bucket)
gained-more p g units budget budget' x y (a ∷ m) fair are more less bound =
    let price = price-more p g a x.combo y.combo fair.coin less.combo in
    step_le _ _ (gain_of g units x a) (gain_of g units y a) _ _
    (may-more (is_move_of g x a) (is_move_of g y a) (price_of p g x.combo a) (price_of p g y.combo a) budget budget' (is_move-more g x y a less bound) price more)
    (gain-more g units x y a are less)
    (gained-more p g units (budget - price_of p g x.combo a) (budget' - price_of p g y.combo a) (move_on_of g units x a) (move_on_of g units y a) m fair are (omega (arith, price, more)) (move_on-more g units x y a are less) (ten-more g units y a bound))

-- the greatest gain of what can do no more, with no greater budget, is at most the other's
pub best-more : (p : Prices) (g : SettingsFields) (units : Units) (budget budget' : ℕ) (x y : SeenFields) → AreFair g p → AreUnits units → budget ≤ budget' → IsNoAbler x y → y.iq ≤ 10 →
    option_le (best p g units budget x) (best p g units budget' y)
best-more p g units budget budget' x y fair are more less bound =
    best-least p g units budget x _ (λ m. option_le-trans _ _ _ (gained-more p g units budget budget' x y m fair are more less bound) (best-upper p g units budget' y m fair))
