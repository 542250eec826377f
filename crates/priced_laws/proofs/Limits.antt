-- The limits of the next state, of the last, and of a state that isn't less; and the laws of the test.
use Rattle.std.proofs.Common.{ℕ, Bool, true, false, Option, Some, None, ◌≡◌, ◌≤◌, inr, ◌+◌, ◌-◌, ◌*◌, ◌/◌, ◌%◌, ◌&&◌, ◌||◌, ◌==◌, nat_lt, min, refl, ◌∙◌, sym, subst, arith, if◌then◌else◌, not}
use Rattle.std.specs.Option.{option_map}
use Rattle.plain_lemmas.proofs.Tests.{and_by, or_none}
use Rattle.std.proofs.lemmas.Nat.{mul-le}
use Rattle.std.proofs.Math.Nat.{mul-le-mul_left}
use Rattle.action_table.specs.declared.action.Action.{Action}
use Rattle.action_table.specs.declared.action.Action.TheVariants.{BasicSynthesis, CarefulSynthesis, Groundwork, ByregotsBlessing, TrainedFinesse}
use Rattle.action_table.specs.Table.{row_of}
use Rattle.craft_state.specs.declared.Perfection.{Perfection}
use Rattle.craft_state.specs.declared.Perfection.TheVariants.{Ready, On, Spent}
use Rattle.craft_state.specs.Craft.{EffectFields, StateFields}
use Rattle.combo_effects.specs.Combos.{is_on}
use Rattle.craft_state.specs.NotLess.{IsNotLess}
use Rattle.craft_settings.specs.Ranges.{SettingsFields}
use Rattle.craft_settings.specs.Rules.{is_allowed, cap_of}
use Rattle.step_rules.specs.Legality.{effect_reason, is_backloaded, IsWithin, IsAllowedNow}
use Rattle.step_rules.specs.Macro.{counted}
use Rattle.step_rules.specs.Step.{wear_at, progress_after, step_of}
use Rattle.step_rules.proofs.LegalFacts.{legal_facts, effects_allow}
use Rattle.relaxed_moves.specs.Moves as relaxed
use Rattle.relaxed_moves.specs.Budget.{wear_cost}
use Rattle.relaxed_moves.specs.Optimum.{option_le, capped}
use Rattle.relaxed_moves.proofs.Costs.{listed-move}
use Rattle.relaxed_moves.proofs.Order.{progress_gain-more}
use Rattle.relaxed_moves.proofs.Greatest.{option_le-trans}
use Rattle.relaxed_moves.proofs.Plans.{map_le}
use Rattle.admissible.proofs.Potential.{allowed-now, spent_waste}
use Rattle.admissible.proofs.Relaxing.{opens, opens-not}
use Rattle.admissible.proofs.Limits.{last-facts, step-parts}
use Rattle.priced_moves.specs.declared.kinds.Prices.{Prices}
use Rattle.priced_moves.specs.declared.kinds.Units.{Units}
use Rattle.priced_moves.specs.Moves.{SeenFields, plain, IsNoAbler, AreUnits, progress_units, is_listed, is_move_of, cp_of, seen_of, gain_of, progress_of, move_on_of, is_in_time}
use Rattle.priced_moves.specs.Prices.{AreFair, raw_price, price_of, spared, raw_worth, worth_of}
use Rattle.priced_moves.specs.Optimum.{best, in_points, limit_of}
use Rattle.priced_moves.proofs.Plans.{best-move, best-empty}
use Rattle.priced_moves.proofs.Order.{best-more, ten-more}
use Rattle.priced_moves.proofs.Rounding.{ceiling-more, quotient-more}
use Rattle.priced_laws.specs.Laws.{GoesLater, FinishesLater}
use Rattle.priced_moves.proofs.Places.{own-cp}
use Rattle.priced_laws.proofs.Places.{relaxed-listed, careful-listed, careful-cp, careful-efficiency}
use Rattle.priced_laws.proofs.Seeing.{opens-later, seen-progress, seen-move, seen-rest, step-quality, rest-quality}
use Rattle.priced_laws.proofs.Worth.{worn, spent_perfection, wear-paid, worth-move, worth-rest}
use Rattle.plain_lemmas.proofs.Numbers.{some_fives, made_progress, gained}
use Rattle.admissible.proofs.Reached.{ap_le}

-- what a move adds to the best plan after it
law-move : (p : Prices) (g : SettingsFields) (units : Units) (budget budget' : ℕ) (x x' : SeenFields) (a : Action) → AreFair g p → AreUnits units →
    is_move_of g x a ≡ true → budget' + price_of p g x.combo a ≤ budget → IsNoAbler x' (move_on_of g units x a) → x.iq ≤ 10 →
    option_le (option_map (λ n. gain_of g units x a + n) (best p g units budget' x')) (best p g units budget x)
law-move p g units budget budget' x x' a fair are may paid less bound =
    option_le-trans _ _ _
    (map_le (gain_of g units x a) _ _ (best-more p g units budget' (budget - price_of p g x.combo a) x' (move_on_of g units x a) fair are (omega arith) less (ten-more g units x a bound)))
    (best-move p g units budget x a fair may (omega arith))

-- quality and the best plan together, after a move
capped-move : (g : SettingsFields) (units : Units) (s s' : StateFields) (gain : ℕ) (o o' : Option ℕ) → s'.quality ≤ s.quality + units.quality * gain → option_le (option_map (λ n. gain + n) o') o →
    option_le (capped g s' (in_points units o')) (capped g s (in_points units o))
capped-move g units s s' gain o None more h = tt
capped-move g units s s' gain None (Some b) more h = absurd h
capped-move g units s s' gain (Some a) (Some b) more h =
    let product : units.quality * (gain + b) ≤ units.quality * a = mul-le-mul_left units.quality h in
    omega (arith, product)

-- and after a rest
pub capped-more : (g : SettingsFields) (units : Units) (s s' : StateFields) (o o' : Option ℕ) → s'.quality ≤ s.quality → option_le o' o →
    option_le (capped g s' (in_points units o')) (capped g s (in_points units o))
capped-more g units s s' o None more h = tt
capped-more g units s s' None (Some b) more h = absurd h
capped-more g units s s' (Some a) (Some b) more h =
    let product : units.quality * b ≤ units.quality * a = mul-le-mul_left units.quality h in
    omega (arith, product)

has-ready : (g : SettingsFields) (units : Units) (s : StateFields) (a : Action) → effect_reason s.effects a ≡ None → relaxed.has_stacks (plain (seen_of g units s)) a ≡ true
unfolding seen_of
has-ready g units s ByregotsBlessing ready = grind arith
has-ready g units s TrainedFinesse ready = grind arith
has-ready g units s _ ready = refl

time_by : (late touch some : Bool) → (late && touch && some) ≡ false → not ((late && some) && touch) ≡ true
time_by true true true h = absurd (cc)
time_by true true false h = refl
time_by true false true h = refl
time_by true false false h = refl
time_by false touch some h = refl

in_time : (g : SettingsFields) (units : Units) (s : StateFields) (a : Action) → is_backloaded g s a ≡ false → is_in_time g (seen_of g units s) a ≡ true
unfolding seen_of
in_time g units s a free = time_by g.backload (nat_lt 0 (row_of a g.level).quality) (nat_lt 0 s.progress) free

-- a legal action of the list is a move
moves-legal : (g : SettingsFields) (units : Units) (s : StateFields) (a : Action) → effect_reason s.effects a ≡ None → is_backloaded g s a ≡ false → is_listed g a ≡ true → is_move_of g (seen_of g units s) a ≡ true
unfolding is_move_of
moves-legal g units s a ready free listed = rw (listed, has-ready g units s a ready, in_time g units s a free) refl

no_touch : (b : Bool) → not (b && false) ≡ true
no_touch true = refl
no_touch false = refl

careful_move : (g : SettingsFields) (units : Units) (s : StateFields) → is_listed g CarefulSynthesis ≡ true → is_move_of g (seen_of g units s) CarefulSynthesis ≡ true
unfolding is_move_of
careful_move g units s listed = and_by _ _ listed (no_touch (seen_of g units s).begun)

pub seen-ten : (g : SettingsFields) (units : Units) (s : StateFields) → IsWithin g s → (seen_of g units s).iq ≤ 10
unfolding seen_of
seen-ten g units s within = within.effects.iq

seen-combo : (g : SettingsFields) (units : Units) (s : StateFields) → (seen_of g units s).combo ≡ s.effects.combo
unfolding seen_of
seen-combo g units s = refl

-- a step never raises the limit
pub limit-step : (p : Prices) (g : SettingsFields) (units : Units) (s : StateFields) (a : Action) (j : ℕ) → AreFair g p → AreUnits units → GoesLater g s a → 1 ≤ j →
    option_le (limit_of p g units (step_of g s a) j) (limit_of p g units s (j + 1))
unfolding limit_of
limit-step p g units s a j fair are later some =
    let facts : IsAllowedNow g s a = legal_facts g s a later.step.legal in
    let bound = seen-ten g units s later.step.within in
    elim (is_listed g a) as (λ b. is_listed g a ≡ b → option_le (capped g (step_of g s a) (in_points units (best p g units (worth_of p (step_of g s a) j) (seen_of g units (step_of g s a))))) (capped g s (in_points units (best p g units (worth_of p s (j + 1)) (seen_of g units s))))) [
      | true ↦ λ listed.
          capped-move g units s (step_of g s a) (gain_of g units (seen_of g units s) a) _ _ (step-quality g units s a are (opens-later g s a later))
          (law-move p g units (worth_of p s (j + 1)) (worth_of p (step_of g s a) j) (seen_of g units s) (seen_of g units (step_of g s a)) a fair are
          (moves-legal g units s a (effects_allow g s a facts) facts.in_time listed) (rw (seen-combo g units s) (worth-move p g s a j fair later.step some listed)) (seen-move g units s a are later) bound)
      | false ↦ λ rest.
          capped-more g units s (step_of g s a) _ _ (rest-quality g s a (allowed-now g s a facts) rest (opens-later g s a later))
          (best-more p g units (worth_of p (step_of g s a) j) (worth_of p s (j + 1)) (seen_of g units (step_of g s a)) (seen_of g units s) fair are (worth-rest p g s a j fair later.step some) (seen-rest g units s a are later rest) bound)
    ] refl

-- a single move that does all the progress, for no less quality than a last step gains
record Stands (p : Prices) (g : SettingsFields) (units : Units) (s : StateFields) (j q : ℕ) (b : Action) : Type 0 where
  pub may : is_move_of g (seen_of g units s) b ≡ true
  pub paid : price_of p g s.effects.combo b ≤ worth_of p s j
  pub none : (move_on_of g units (seen_of g units s) b).need ≡ 0
  pub quality : q ≤ s.quality + units.quality * gain_of g units (seen_of g units s) b

capped-some : (g : SettingsFields) (units : Units) (s : StateFields) (q gain : ℕ) (o : Option ℕ) → q ≤ s.quality + units.quality * gain → option_le (Some (gain + 0)) o →
    option_le (Some (min (cap_of g) q)) (capped g s (in_points units o))
capped-some g units s q gain None more h = absurd h
capped-some g units s q gain (Some a) more h =
    let product : units.quality * (gain + 0) ≤ units.quality * a = mul-le-mul_left units.quality h in
    omega (arith, product)

lone-plan : (p : Prices) (g : SettingsFields) (units : Units) (budget : ℕ) (x : SeenFields) (a : Action) → AreFair g p → is_move_of g x a ≡ true → price_of p g x.combo a ≤ budget →
    (move_on_of g units x a).need ≡ 0 → option_le (Some (gain_of g units x a + 0)) (best p g units budget x)
lone-plan p g units budget x a fair may paid none =
    option_le-trans (Some (gain_of g units x a + 0)) _ _
    (map_le (gain_of g units x a) (Some 0) _ (best-empty p g units (budget - price_of p g x.combo a) (move_on_of g units x a) fair none))
    (best-move p g units budget x a fair may paid)

stands-limit : (p : Prices) (g : SettingsFields) (units : Units) (s : StateFields) (j q : ℕ) (b : Action) → AreFair g p → Stands p g units s j q b →
    option_le (Some (min (cap_of g) q)) (limit_of p g units s j)
unfolding limit_of
stands-limit p g units s j q b fair stands =
    capped-some g units s q (gain_of g units (seen_of g units s) b) _ stands.quality
    (lone-plan p g units (worth_of p s j) (seen_of g units s) b fair stands.may (rw (seen-combo g units s) stands.paid) stands.none)

-- what is left is done by a move with as much progress
none-left : (g : SettingsFields) (units : Units) (s : StateFields) (b : Action) → AreUnits units → g.progress ≤ s.progress + progress_of g (seen_of g units s) b →
    (move_on_of g units (seen_of g units s) b).need ≡ 0
unfolding seen_of move_on_of
none-left g units s b are done =
    let gain = progress_of g (seen_of g units s) b in
    let product : (g.progress - s.progress) * units.share ≤ gain * units.share = mul-le (g.progress - s.progress) units.share gain units.share (omega arith) (omega arith) in
    let more = ceiling-more ((g.progress - s.progress) * units.share) (gain * units.share) units.progress are.progress product in
    omega (arith, more)

all_done : (n p : ℕ) → (n == p) ≡ true → n ≡ p
all_done n p h = grind arith

-- within the budget, where the wear is what is left and what may be overdrawn
overdrawn : (alpha rho sigma step cp cost d h w f over wear j : ℕ) → cost ≤ cp → 1 ≤ h → wear ≤ rho + over → 1 ≤ j →
    alpha * cost + wear + step ≤ alpha * cp + rho * (h + d) + sigma * w + f + over + step * j
overdrawn alpha rho sigma step cp cost d h w f over wear j paid left cheap some =
    let a : alpha * cost ≤ alpha * cp = mul-le-mul_left alpha paid in
    let b : rho * 1 ≤ rho * (h + d) = mul-le-mul_left rho (omega arith) in
    let c : step * 1 ≤ step * j = mul-le-mul_left step some in
    omega arith

paid-overdrawn : (p : Prices) (g : SettingsFields) (s : StateFields) (b : Action) (j : ℕ) → AreFair g p → 1 ≤ j → 1 ≤ s.durability / 5 → cp_of g s.effects.combo b ≤ s.cp →
    wear_cost p.five p.waste ((row_of b g.level).durability / 5) ≤ p.five + p.five → price_of p g s.effects.combo b ≤ worth_of p s j
unfolding price_of worth_of
paid-overdrawn p g s b j fair some left paid cheap =
    quotient-more (raw_price p g s.effects.combo b) (raw_worth p s j) p.coin fair.coin
    (overdrawn p.cp p.five p.waste p.step s.cp (cp_of g s.effects.combo b) (min s.effects.manipulation (j - 1)) (s.durability / 5) (min s.effects.waste j) (spared p s.effects.perfection) p.five _ j paid left cheap some)

-- within the budget, where the durability lasts
lasted : (alpha rho sigma step cp cost d h w u t f c over wear j : ℕ) → cost ≤ cp → u ≤ h → t ≤ w → c ≤ f → wear ≤ rho * u + sigma * t + c → 1 ≤ j →
    alpha * cost + wear + step ≤ alpha * cp + rho * (h + d) + sigma * w + f + over + step * j
lasted alpha rho sigma step cp cost d h w u t f c over wear j paid left waste spare cheap some =
    let a : alpha * cost ≤ alpha * cp = mul-le-mul_left alpha paid in
    let b : rho * u ≤ rho * (h + d) = mul-le-mul_left rho (omega arith) in
    let e : sigma * t ≤ sigma * w = mul-le-mul_left sigma waste in
    let c' : step * 1 ≤ step * j = mul-le-mul_left step some in
    omega arith

worn-lasts : (g : SettingsFields) (s : StateFields) (b : Action) → wear_at g s b ≤ s.durability → worn g s.effects b ≤ s.durability / 5
worn-lasts g s BasicSynthesis lasts = grind arith
worn-lasts g s _ lasts = grind arith

waste-left : (e : EffectFields) (j : ℕ) → 1 ≤ j → spent_waste e ≤ min e.waste j
waste-left e j some = grind arith

spared-left : (p : Prices) (perfection : Perfection) (c : Bool) → (if is_on perfection && c then 4 * p.five else 0) ≤ spared p perfection
spared-left p Ready c = omega arith
spared-left p On true = omega arith
spared-left p On false = omega arith
spared-left p Spent c = omega arith

paid-lasting : (p : Prices) (g : SettingsFields) (s : StateFields) (b : Action) (j : ℕ) → AreFair g p → 1 ≤ j → cp_of g s.effects.combo b ≤ s.cp →
    wear_at g s b ≤ s.durability → price_of p g s.effects.combo b ≤ worth_of p s j
unfolding price_of worth_of
paid-lasting p g s b j fair some paid lasts =
    quotient-more (raw_price p g s.effects.combo b) (raw_worth p s j) p.coin fair.coin
    (lasted p.cp p.five p.waste p.step s.cp (cp_of g s.effects.combo b) (min s.effects.manipulation (j - 1)) (s.durability / 5) (min s.effects.waste j)
    (worn g s.effects b) (spent_waste s.effects) (spared p s.effects.perfection) (spent_perfection p g s.effects b) p.five _ j
    paid (worn-lasts g s b lasts) (waste-left s.effects j some) (spared-left p s.effects.perfection (nat_lt 0 (row_of b g.level).durability)) (wear-paid p g s.effects b) some)

-- what a last step is known for
record LastOf (g : SettingsFields) (s : StateFields) (a : Action) : Type 0 where
  pub facts : IsAllowedNow g s a
  pub allowed : is_allowed g a ≡ true
  pub paid : cp_of g s.effects.combo a ≤ s.cp
  pub listed : is_listed g a ≡ true
  pub later : opens a ≡ false
  pub made : nat_lt 0 (row_of a g.level).progress ≡ true
  pub done : progress_after g s a ≡ g.progress
  pub left : 1 ≤ s.durability / 5

last-of : (g : SettingsFields) (s : StateFields) (a : Action) → FinishesLater g s a → LastOf g s a
last-of g s a last =
    let facts : IsAllowedNow g s a = legal_facts g s a last.step.legal in
    let parts = step-parts g s a in
    let done : progress_after g s a ≡ g.progress = sym parts.0 ∙ all_done _ _ last.step.done in
    let allowed = allowed-now g s a facts in
    let own = own-cp g s.effects.combo a allowed in
    let over = or_none (s.progress == g.progress) (s.durability == 0) facts.live in
    let relaxed_facts = last-facts g 1 s a record { step = last.step; first = last.first; low = omega arith } in
    record {
      facts = facts;
      allowed = allowed;
      paid = omega (arith, own, facts.paid);
      listed = relaxed-listed g a (listed-move g (relaxed.relax_of g 1 s) a relaxed_facts.may);
      later = opens-not s.effects a last.first (effects_allow g s a facts);
      made = made_progress _ _ _ _ done over.0;
      done = done;
      left = some_fives s.durability over.1 last.step.within.state.fives;
    }

-- the action itself, where it is within the budget
stands-own : (p : Prices) (g : SettingsFields) (units : Units) (s : StateFields) (a : Action) (j : ℕ) → AreUnits units → LastOf g s a → price_of p g s.effects.combo a ≤ worth_of p s j →
    Stands p g units s j (step_of g s a).quality a
stands-own p g units s a j are last paid = record {
  may = moves-legal g units s a (effects_allow g s a last.facts) last.facts.in_time last.listed;
  paid = paid;
  none = none-left g units s a are (omega (arith, seen-progress g units s a last.allowed, last.done));
  quality = step-quality g units s a are last.later;
}

half_progress : (g : SettingsFields) (units : Units) (s : StateFields) → nat_lt s.durability (wear_at g s Groundwork) ≡ true →
    progress_after g s Groundwork ≤ s.progress + progress_of g (seen_of g units s) CarefulSynthesis
unfolding seen_of
half_progress g units s short =
    gained (nat_lt 0 (row_of Groundwork g.level).progress) g.progress s.progress _ _
    (progress_gain-more g.base_progress _ _ _ _ _ _ (careful-efficiency g s short) (λ e. e) (λ e. e))

stands-careful : (p : Prices) (g : SettingsFields) (units : Units) (s : StateFields) (j : ℕ) → AreFair g p → AreUnits units → 1 ≤ j → LastOf g s Groundwork →
    nat_lt s.durability (wear_at g s Groundwork) ≡ true → Stands p g units s j (step_of g s Groundwork).quality CarefulSynthesis
stands-careful p g units s j fair are some last short =
    let parts = step-parts g s Groundwork in
    let cp = careful-cp g s.effects.combo in
    record {
      may = careful_move g units s (careful-listed g last.allowed);
      paid = paid-overdrawn p g s CarefulSynthesis j fair some last.left (omega (arith, cp, last.facts.paid)) (omega arith);
      none = none-left g units s CarefulSynthesis are (omega (arith, half_progress g units s short, last.done));
      quality = omega (arith, parts.1);
    }

abbrev is_groundwork : Action → Bool
is_groundwork Groundwork = true
is_groundwork _ = false

not_less : (n m : ℕ) → nat_lt n m ≡ false → m ≤ n
not_less n m h = grind arith

-- any other last action overdraws no more than is allowed
two_fives : (p : Prices) (g : SettingsFields) (a : Action) → is_groundwork a ≡ false → nat_lt 0 (row_of a g.level).progress ≡ true →
    wear_cost p.five p.waste ((row_of a g.level).durability / 5) ≤ p.five + p.five
two_fives p g Groundwork other made = absurd (cc)
two_fives p g BasicSynthesis other made = omega arith
two_fives p g _ other made = grind arith

last-groundwork : (p : Prices) (g : SettingsFields) (units : Units) (s : StateFields) (j : ℕ) → AreFair g p → AreUnits units → 1 ≤ j → LastOf g s Groundwork →
    option_le (Some (counted g (step_of g s Groundwork))) (limit_of p g units s j)
last-groundwork p g units s j fair are some last =
    elim (nat_lt s.durability (wear_at g s Groundwork)) as (λ b. nat_lt s.durability (wear_at g s Groundwork) ≡ b → option_le (Some (counted g (step_of g s Groundwork))) (limit_of p g units s j)) [
      | false ↦ λ whole.
          stands-limit p g units s j (step_of g s Groundwork).quality Groundwork fair
          (stands-own p g units s Groundwork j are last (paid-lasting p g s Groundwork j fair some last.paid (not_less _ _ whole)))
      | true ↦ λ short.
          stands-limit p g units s j (step_of g s Groundwork).quality CarefulSynthesis fair
          (stands-careful p g units s j fair are some last short)
    ] refl

last-other : (p : Prices) (g : SettingsFields) (units : Units) (s : StateFields) (a : Action) (j : ℕ) → AreFair g p → AreUnits units → 1 ≤ j → LastOf g s a → is_groundwork a ≡ false →
    option_le (Some (counted g (step_of g s a))) (limit_of p g units s j)
last-other p g units s a j fair are some last other =
    let few = two_fives p g a other last.made in
    stands-limit p g units s j (step_of g s a).quality a fair
    (stands-own p g units s a j are last (paid-overdrawn p g s a j fair some last.left last.paid few))

-- a step that completes the craft gives no more than the limit
pub limit-last : (p : Prices) (g : SettingsFields) (units : Units) (s : StateFields) (a : Action) (j : ℕ) → AreFair g p → AreUnits units → FinishesLater g s a → 1 ≤ j →
    option_le (Some (counted g (step_of g s a))) (limit_of p g units s j)
limit-last p g units s Groundwork j fair are last some =
    last-groundwork p g units s j fair are some (last-of g s Groundwork last)
limit-last p g units s BasicSynthesis j fair are last some = last-other p g units s BasicSynthesis j fair are some (last-of g s BasicSynthesis last) refl
limit-last p g units s a j fair are last some = last-other p g units s a j fair are some (last-of g s a last) refl

worth-more : (alpha rho over step cp cp' d d' m m' w w' j : ℕ) → cp' ≤ cp → d' ≤ d → m' ≤ m → w' ≤ w →
    alpha * cp' + rho * (d' + m') + w' + over + step * j ≤ alpha * cp + rho * (d + m) + w + over + step * j
worth-more alpha rho over step cp cp' d d' m m' w w' j a b c e =
    let x : alpha * cp' ≤ alpha * cp = mul-le-mul_left alpha a in
    let y : rho * (d' + m') ≤ rho * (d + m) = mul-le-mul_left rho (omega arith) in
    omega arith

pub worth-not_less : (p : Prices) (a b : StateFields) (j : ℕ) → 1 ≤ p.coin → IsNotLess a b → worth_of p b j ≤ worth_of p a j
unfolding worth_of
worth-not_less p a b j coin h =
    let d : b.durability / 5 ≤ a.durability / 5 = omega (arith, h.durability) in
    let m = ap_le (λ e. min e.manipulation (j - 1)) b.effects a.effects (sym h.effects) in
    let w = ap_le (λ e. p.waste * min e.waste j + spared p e.perfection) b.effects a.effects (sym h.effects) in
    quotient-more (raw_worth p b j) (raw_worth p a j) p.coin coin
    (omega (
      arith,
      worth-more p.cp p.five p.five p.step a.cp b.cp (a.durability / 5) (b.durability / 5) (min a.effects.manipulation (j - 1)) (min b.effects.manipulation (j - 1))
          (p.waste * min a.effects.waste j + spared p a.effects.perfection) (p.waste * min b.effects.waste j + spared p b.effects.perfection) j h.cp d m w,
    ))

same-seen : (g : SettingsFields) (units : Units) (a b : StateFields) → IsNotLess a b → seen_of g units b ≡ seen_of g units a
unfolding seen_of
same-seen g units a b h = λ i. record {
  need = progress_units units (g.progress - sym h.progress i);
  iq = (sym h.effects i).iq;
  innovation = (sym h.effects i).innovation;
  veneration = (sym h.effects i).veneration;
  strides = nat_lt 0 (sym h.effects i).strides;
  muscle = nat_lt 0 (sym h.effects i).muscle;
  combo = (sym h.effects i).combo;
  begun = g.backload && nat_lt 0 (sym h.progress i);
}

pub IsNoAbler-refl : (x : SeenFields) → IsNoAbler x x
IsNoAbler-refl x = record {
  plain = record { bucket = omega arith; iq = omega arith; innovation = omega arith; veneration = omega arith; strides = λ e. e; muscle = λ e. e };
  combo = inr refl;
  begun = λ e. e;
}

pub limit-not_less : (p : Prices) (g : SettingsFields) (units : Units) (a b : StateFields) (j : ℕ) → AreFair g p → AreUnits units → IsWithin g a → IsNotLess a b →
    option_le (limit_of p g units b j) (limit_of p g units a j)
unfolding limit_of
limit-not_less p g units a b j fair are within h =
    capped-more g units a b _ _ h.quality
    (subst (λ x. option_le (best p g units (worth_of p b j) x) (best p g units (worth_of p a j) (seen_of g units a))) (sym (same-seen g units a b h))
    (best-more p g units (worth_of p b j) (worth_of p a j) (seen_of g units a) (seen_of g units a) fair are (worth-not_less p a b j fair.coin h) (IsNoAbler-refl (seen_of g units a)) (seen-ten g units a within)))
