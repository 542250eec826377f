-- What a step does to the worth of the means.
use Rattle.std.proofs.Common.{ℕ, Bool, true, false, None, ◌≡◌, ◌≤◌, ◌+◌, ◌-◌, ◌*◌, ◌/◌, ◌%◌, ◌&&◌, ◌||◌, ◌==◌, not, nat_lt, min, refl, sym, arith, if◌then◌else◌}
use Rattle.std.proofs.Math.Nat.{mul-le-mul_left}
use Rattle.action_table.specs.declared.action.Action.{Action}
use Rattle.action_table.specs.declared.action.Action.TheVariants.{BasicSynthesis, MastersMend, ImmaculateMend, Manipulation, WasteNot, WasteNotII, TrainedPerfection}
use Rattle.action_table.specs.Table.{row_of}
use Rattle.craft_state.specs.declared.Combo.{Combo}
use Rattle.craft_state.specs.declared.Perfection.{Perfection}
use Rattle.craft_state.specs.declared.Perfection.TheVariants.{Ready, On, Spent}
use Rattle.craft_state.specs.Craft.{EffectFields, StateFields}
use Rattle.craft_settings.specs.Ranges.{SettingsFields}
use Rattle.craft_settings.specs.Rules.{is_allowed}
use Rattle.combo_effects.specs.Combos.{is_on, cp_cost_of, tick_of, after_of}
use Rattle.step_rules.specs.Legality.{is_over, is_ready, effect_reason, IsAllowedNow}
use Rattle.step_rules.specs.Step.{wear_at, acted_of, settled_of, step_of}
use Rattle.step_rules.proofs.LegalFacts.{legal_facts, effects_allow}
use Rattle.relaxed_moves.specs.Budget.{wear_cost}
use Rattle.admissible.specs.Laws.{GoesOn}
use Rattle.admissible.proofs.Potential.{lift, waste_lift, taken, spent_waste, goes-acted, step-settled, allowed-now, acted-parts, settled-cp, wear_fives, lasting}
use Rattle.priced_moves.specs.declared.kinds.Prices.{Prices}
use Rattle.priced_moves.specs.Moves.{is_listed}
use Rattle.priced_moves.specs.Prices.{raw_price, price_of, AreFair, spared, raw_worth, worth_of}
use Rattle.priced_moves.proofs.Rounding.{quotient-add, quotient-more}
use Rattle.priced_moves.proofs.Places.{own-cp}
use Rattle.plain_lemmas.proofs.Numbers.{one_less, fives_less}

-- what the action's durability takes from Trained Perfection
abbrev pub spent_perfection : Prices → SettingsFields → EffectFields → Action → ℕ
spent_perfection p g e a = if is_on e.perfection && nat_lt 0 (row_of a g.level).durability then 4 * p.five else 0

-- the fives that an action takes, none under Trained Perfection
abbrev pub worn : SettingsFields → EffectFields → Action → ℕ
worn g e a = if is_on e.perfection then 0 else taken g e a

fives-acted : (g : SettingsFields) (s : StateFields) (a : Action) → s.durability % 5 ≡ 0 → wear_at g s a ≤ s.durability →
    (acted_of g s a).durability / 5 + worn g s.effects a ≤ s.durability / 5
unfolding acted_of
fives-acted g s BasicSynthesis fives lasts = grind arith
fives-acted g s _ fives lasts = grind arith

spared-by : (p : Prices) (perfection : Perfection) (c : Bool) →
    spared p (if is_on perfection && c then Spent else perfection) + (if is_on perfection && c then 4 * p.five else 0) ≤ spared p perfection
spared-by p Ready c = omega arith
spared-by p On true = omega arith
spared-by p On false = omega arith
spared-by p Spent c = omega arith

spared-acted : (p : Prices) (g : SettingsFields) (s : StateFields) (a : Action) →
    spared p (acted_of g s a).effects.perfection + spent_perfection p g s.effects a ≤ spared p s.effects.perfection
unfolding acted_of
spared-acted p g s a = spared-by p s.effects.perfection (nat_lt 0 (row_of a g.level).durability)

-- what follows where the craft goes on: Manipulation is counted for one step less
fives-settled : (g : SettingsFields) (before : EffectFields) (a : Action) (s : StateFields) (j : ℕ) → 1 ≤ j →
    s.durability ≤ g.durability → 5 ≤ s.durability → s.durability % 5 ≡ 0 → before.manipulation ≡ s.effects.manipulation →
    (settled_of g before a s).durability / 5 + min (settled_of g before a s).effects.manipulation (j - 1) ≤ s.durability / 5 + min s.effects.manipulation j + lift g a
unfolding settled_of tick_of after_of
fives-settled g before BasicSynthesis s j some within live fives same = grind arith
fives-settled g before _ s j some within live fives same = grind arith

waste-settled : (g : SettingsFields) (before : EffectFields) (a : Action) (s : StateFields) (j : ℕ) → s.effects.waste ≡ before.waste →
    min (settled_of g before a s).effects.waste j + spent_waste before ≤ min s.effects.waste (j + 1) + waste_lift a
unfolding settled_of tick_of after_of
waste-settled g before BasicSynthesis s j same = grind arith
waste-settled g before _ s j same = grind arith

-- Trained Perfection is worth a step more once it is used
abbrev pub step_lift : Prices → Action → ℕ
step_lift p TrainedPerfection = p.step
step_lift p _ = 0

ready-spared : (p : Prices) (perfection : Perfection) → is_ready perfection ≡ true → 4 * p.five ≤ spared p perfection + p.step
ready-spared p Ready h = omega arith
ready-spared p On h = omega arith
ready-spared p Spent h = absurd (cc)

spared-settled : (p : Prices) (g : SettingsFields) (before : EffectFields) (a : Action) (s : StateFields) →
    (a ≡ TrainedPerfection → is_ready s.effects.perfection ≡ true) →
    spared p (settled_of g before a s).effects.perfection ≤ spared p s.effects.perfection + step_lift p a
unfolding settled_of tick_of after_of
spared-settled p g before TrainedPerfection s ready = ready-spared p s.effects.perfection (ready refl)
spared-settled p g before BasicSynthesis s ready = omega arith
spared-settled p g before _ s ready = omega arith

ready-acted : (g : SettingsFields) (s : StateFields) (a : Action) → effect_reason s.effects a ≡ None → a ≡ TrainedPerfection → is_ready (acted_of g s a).effects.perfection ≡ true
unfolding acted_of
ready-acted g s TrainedPerfection ready e = grind arith
ready-acted g s _ ready e = absurd (cc)

-- the wear of a row costs no more than what it takes
few_fives : (g : SettingsFields) (a : Action) → (row_of a g.level).durability / 5 ≤ 4
few_fives g BasicSynthesis = omega arith
few_fives g _ = omega arith

wear_cost-by : (five waste d n : ℕ) (halved : Bool) (perfection : Perfection) → d ≡ n / 5 → d ≤ 4 →
    wear_cost five waste d
    ≤ five * (if is_on perfection then 0 else if (not (is_on perfection) && halved) then (d + 1) / 2 else d)
    + waste * (if (not (is_on perfection) && halved) then 1 else 0)
    + (if is_on perfection && nat_lt 0 n then 4 * five else 0)
wear_cost-by five waste d n true Ready e few = omega arith
wear_cost-by five waste d n false Ready e few = omega arith
wear_cost-by five waste d n true Spent e few = omega arith
wear_cost-by five waste d n false Spent e few = omega arith
wear_cost-by five waste d n halved On e few =
    let product : five * d ≤ five * 4 = mul-le-mul_left five few in
    grind arith

pub wear-paid : (p : Prices) (g : SettingsFields) (e : EffectFields) (a : Action) →
    wear_cost p.five p.waste ((row_of a g.level).durability / 5) ≤ p.five * worn g e a + p.waste * spent_waste e + spent_perfection p g e a
wear-paid p g e a = wear_cost-by p.five p.waste _ (row_of a g.level).durability (nat_lt 0 e.waste) e.perfection refl (few_fives g a)

charge : (alpha rho sigma step cp cp' cost h h' u l w w' t k f f' c e j over wear : ℕ) → cp' + cost ≤ cp → h' + u ≤ h + l → w' + t ≤ w + k → f' + c ≤ f + e → wear ≤ rho * u + sigma * t + c →
    alpha * cp' + rho * h' + sigma * w' + f' + over + step * j + (alpha * cost + wear + step) ≤ alpha * cp + rho * h + sigma * w + f + over + step * (j + 1) + (rho * l + sigma * k + e)
charge alpha rho sigma step cp cp' cost h h' u l w w' t k f f' c e j over wear paid strong waste spared cheap =
    let a : alpha * (cp' + cost) ≤ alpha * cp = mul-le-mul_left alpha paid in
    let b : rho * (h' + u) ≤ rho * (h + l) = mul-le-mul_left rho strong in
    let d : sigma * (w' + t) ≤ sigma * (w + k) = mul-le-mul_left sigma waste in
    omega arith

-- what the action's own effect may add to the worth
abbrev pub lift_worth : Prices → SettingsFields → Action → ℕ
lift_worth p g a = p.five * lift g a + p.waste * waste_lift a + step_lift p a

-- the law of the worth, for moves and rests alike
pub raw-step : (p : Prices) (g : SettingsFields) (s : StateFields) (a : Action) (j : ℕ) → GoesOn g s a → 1 ≤ j →
    raw_worth p (step_of g s a) j + raw_price p g s.effects.combo a ≤ raw_worth p s (j + 1) + lift_worth p g a
raw-step p g s a j step some =
    let facts : IsAllowedNow g s a = legal_facts g s a step.legal in
    let going : is_over g (acted_of g s a) ≡ false = goes-acted g s a step.live in
    let lasts : (wear_at g s a ≤ s.durability) × (5 ≤ s.durability - wear_at g s a) = lasting g s a going step.within.state.fives in
    let parts = acted-parts g s a in
    let fives : (acted_of g s a).durability % 5 ≡ 0 = rw parts.0 (fives_less s.durability (wear_at g s a) step.within.state.fives (wear_fives g s a) lasts.0) in
    let full : (acted_of g s a).durability ≤ g.durability = omega (arith, parts.0, step.within.durability) in
    let left : 5 ≤ (acted_of g s a).durability = omega (arith, parts.0, lasts.1) in
    let acted = fives-acted g s a step.within.state.fives lasts.0 in
    let settled = fives-settled g s.effects a (acted_of g s a) j some full left fives (sym parts.1) in
    let waste = waste-settled g s.effects a (acted_of g s a) j parts.2 in
    let spare = spared-acted p g s a in
    let spared_now = spared-settled p g s.effects a (acted_of g s a) (ready-acted g s a (effects_allow g s a facts)) in
    let cp = settled-cp g s.effects a (acted_of g s a) in
    let total = charge p.cp p.five p.waste p.step s.cp (settled_of g s.effects a (acted_of g s a)).cp (cp_cost_of a g.level s.effects.combo)
    (s.durability / 5 + min s.effects.manipulation j) ((settled_of g s.effects a (acted_of g s a)).durability / 5 + min (settled_of g s.effects a (acted_of g s a)).effects.manipulation (j - 1)) (worn g s.effects a) (lift g a)
    (min s.effects.waste (j + 1)) (min (settled_of g s.effects a (acted_of g s a)).effects.waste j) (spent_waste s.effects) (waste_lift a)
    (spared p s.effects.perfection) (spared p (settled_of g s.effects a (acted_of g s a)).effects.perfection) (spent_perfection p g s.effects a) (step_lift p a)
    j p.five (wear_cost p.five p.waste ((row_of a g.level).durability / 5))
    (omega (arith, cp, parts.3, facts.paid))
    (omega (arith, acted, settled, parts.1))
    (omega (arith, waste, parts.2))
    (omega (arith, spare, spared_now))
    (wear-paid p g s.effects a) in
    let own = own-cp g s.effects.combo a (allowed-now g s a facts) in
    rw (step-settled g s a going, one_less j, own) total

-- what an action adds is paid by its CP and its step
pub lift-paid : (p : Prices) (g : SettingsFields) (combo : Combo) (a : Action) → AreFair g p → is_allowed g a ≡ true → lift_worth p g a ≤ raw_price p g combo a
lift-paid p g combo MastersMend fair allowed = omega (arith, fair.five.masters_mend allowed)
lift-paid p g combo ImmaculateMend fair allowed = omega (arith, fair.five.immaculate_mend allowed)
lift-paid p g combo Manipulation fair allowed = omega (arith, fair.five.manipulation allowed)
lift-paid p g combo WasteNot fair allowed = omega (arith, fair.waste.waste_not allowed)
lift-paid p g combo WasteNotII fair allowed = omega (arith, fair.waste.waste_not_ii allowed)
lift-paid p g combo _ fair allowed = omega arith

-- and a move adds nothing
pub lift-none : (p : Prices) (g : SettingsFields) (a : Action) → is_listed g a ≡ true → lift_worth p g a ≡ 0
lift-none p g MastersMend listed = grind arith
lift-none p g ImmaculateMend listed = grind arith
lift-none p g Manipulation listed = grind arith
lift-none p g WasteNot listed = grind arith
lift-none p g WasteNotII listed = grind arith
lift-none p g TrainedPerfection listed = grind arith
lift-none p g _ listed = omega arith

-- a move is paid by the fall of the worth
pub worth-move : (p : Prices) (g : SettingsFields) (s : StateFields) (a : Action) (j : ℕ) → AreFair g p → GoesOn g s a → 1 ≤ j → is_listed g a ≡ true →
    worth_of p (step_of g s a) j + price_of p g s.effects.combo a ≤ worth_of p s (j + 1)
unfolding worth_of price_of
worth-move p g s a j fair step some listed =
    let add = quotient-add (raw_worth p (step_of g s a) j) (raw_price p g s.effects.combo a) p.coin fair.coin in
    let law = raw-step p g s a j step some in
    let more = quotient-more (raw_worth p (step_of g s a) j + raw_price p g s.effects.combo a) (raw_worth p s (j + 1)) p.coin fair.coin (omega (arith, law, lift-none p g a listed)) in
    omega (arith, add, more)

-- and no other step raises it
pub worth-rest : (p : Prices) (g : SettingsFields) (s : StateFields) (a : Action) (j : ℕ) → AreFair g p → GoesOn g s a → 1 ≤ j →
    worth_of p (step_of g s a) j ≤ worth_of p s (j + 1)
unfolding worth_of
worth-rest p g s a j fair step some =
    let law = raw-step p g s a j step some in
    let paid = lift-paid p g s.effects.combo a fair (allowed-now g s a (legal_facts g s a step.legal)) in
    quotient-more (raw_worth p (step_of g s a) j) (raw_worth p s (j + 1)) p.coin fair.coin (omega (arith, law, paid))
