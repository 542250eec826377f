-- What a step does to the potential.
use Rattle.std.proofs.Common.{ℕ, Bool, true, false, None, ◌≡◌, ◌≤◌, ◌+◌, ◌-◌, ◌*◌, ◌/◌, ◌%◌, ◌&&◌, ◌||◌, ◌==◌, not, nat_lt, refl, sym, arith, if◌then◌else◌}
use Rattle.relaxed_moves.proofs.Costs.{rho_high}
use Rattle.plain_lemmas.proofs.Tests.{clash}
use Rattle.std.proofs.lemmas.Nat.{div-add-mod', mul-le}
use Rattle.std.proofs.Math.Nat.{mul-le-mul_left}
use Rattle.action_table.specs.declared.action.Action.{Action}
use Rattle.action_table.specs.declared.action.Action.TheVariants.{BasicSynthesis, MastersMend, ImmaculateMend, Manipulation, WasteNot, WasteNotII, TrainedPerfection}
use Rattle.action_table.specs.Table.{row_of}
use Rattle.craft_state.specs.Craft.{EffectFields, StateFields}
use Rattle.craft_settings.specs.Ranges.{SettingsFields}
use Rattle.craft_settings.specs.Rules.{is_allowed}
use Rattle.combo_effects.specs.Combos.{is_on, cp_cost_of, tick_of, after_of}
use Rattle.step_rules.specs.Legality.{is_over, effect_reason, IsAllowedNow}
use Rattle.step_rules.specs.Step.{wear_at, acted_of, settled_of, step_of}
use Rattle.step_rules.proofs.LegalFacts.{legal_facts, effects_allow}
use Rattle.relaxed_moves.specs.Budget.{rho_of, sigma_of, slack_of, is_spent, wear_cost, cost_of, potential_of}
use Rattle.relaxed_moves.specs.Moves.{is_listed}
use Rattle.admissible.specs.Laws.{GoesOn}
use Rattle.plain_lemmas.proofs.Numbers.{fives_less, outlasts}
use Rattle.relaxed_moves.proofs.RestPrices.{rho-manipulation, rho-mend, sigma-waste, sigma-waste_more, combo_cost}

-- the worth of a state in fives of durability
abbrev pub strength : StateFields → ℕ
strength s = s.durability / 5 + s.effects.manipulation + (if is_spent s.effects.perfection then 0 else 4)

gathered : (rho d m : ℕ) (spent : Bool) → rho * d + rho * m + (if spent then 0 else 4 * rho) ≡ rho * (d + m + (if spent then 0 else 4))
gathered rho d m true = omega arith
gathered rho d m false = omega arith

pub potential-strength : (g : SettingsFields) (s : StateFields) →
    potential_of g s ≡ s.cp + rho_of g * strength s + sigma_of g * s.effects.waste + slack_of g
unfolding potential_of
potential-strength g s = omega (arith, gathered (rho_of g) (s.durability / 5) s.effects.manipulation (is_spent s.effects.perfection))

-- the fives of durability, and the steps of Waste Not, that an action's own effect may add
abbrev pub lift : SettingsFields → Action → ℕ
lift g MastersMend = 6
lift g ImmaculateMend = g.durability / 5 - 1
lift g Manipulation = 8
lift g _ = 0

abbrev pub waste_lift : Action → ℕ
waste_lift WasteNot = 4
waste_lift WasteNotII = 8
waste_lift _ = 0

-- Waste Not halves the wear
abbrev pub halves : EffectFields → Bool
halves e = not (is_on e.perfection) && nat_lt 0 e.waste

-- the fives that an action takes
abbrev pub taken : SettingsFields → EffectFields → Action → ℕ
taken g e action =
    if halves e then ((row_of action g.level).durability / 5 + 1) / 2 else (row_of action g.level).durability / 5

-- and the steps of Waste Not
abbrev pub spent_waste : EffectFields → ℕ
spent_waste e = if halves e then 1 else 0

strength-acted : (g : SettingsFields) (s : StateFields) (a : Action) → s.durability % 5 ≡ 0 → wear_at g s a ≤ s.durability →
    strength (acted_of g s a) + taken g s.effects a ≤ strength s
unfolding acted_of
strength-acted g s BasicSynthesis fives lasts = grind arith
strength-acted g s _ fives lasts = grind arith

-- what follows where the craft goes on adds so much
strength-settled : (g : SettingsFields) (before : EffectFields) (a : Action) (s : StateFields) →
    s.durability ≤ g.durability → 5 ≤ s.durability → s.durability % 5 ≡ 0 → before.manipulation ≡ s.effects.manipulation →
    (a ≡ TrainedPerfection → is_spent s.effects.perfection ≡ false) →
    strength (settled_of g before a s) ≤ strength s + lift g a
unfolding settled_of tick_of after_of
strength-settled g before BasicSynthesis s within live fives same ready = grind arith
strength-settled g before _ s within live fives same ready = grind arith

waste-settled : (g : SettingsFields) (before : EffectFields) (a : Action) (s : StateFields) → s.effects.waste ≡ before.waste →
    (settled_of g before a s).effects.waste + spent_waste before ≤ s.effects.waste + waste_lift a
unfolding settled_of tick_of after_of
waste-settled g before BasicSynthesis s same = grind arith
waste-settled g before _ s same = grind arith

pub wear_fives : (g : SettingsFields) (s : StateFields) (a : Action) → wear_at g s a % 5 ≡ 0
wear_fives g s BasicSynthesis = grind arith
wear_fives g s _ = grind arith

pub lasting : (g : SettingsFields) (s : StateFields) (a : Action) → is_over g (acted_of g s a) ≡ false → s.durability % 5 ≡ 0 →
    (wear_at g s a ≤ s.durability) × (5 ≤ s.durability - wear_at g s a)
unfolding acted_of
lasting g s a live fives = outlasts _ s.durability (wear_at g s a) live fives (wear_fives g s a)

pub goes-acted : (g : SettingsFields) (s : StateFields) (a : Action) → is_over g (step_of g s a) ≡ false → is_over g (acted_of g s a) ≡ false
unfolding step_of
goes-acted g s a live =
    elim (is_over g (acted_of g s a)) as (λ b. is_over g (acted_of g s a) ≡ b → is_over g (if b then acted_of g s a else settled_of g s.effects a (acted_of g s a)) ≡ false → is_over g (acted_of g s a) ≡ false) [
      | true ↦ λ over still. absurd (clash over still)
      | false ↦ λ going still. going
    ] refl live

pub step-settled : (g : SettingsFields) (s : StateFields) (a : Action) → is_over g (acted_of g s a) ≡ false → step_of g s a ≡ settled_of g s.effects a (acted_of g s a)
unfolding step_of
step-settled g s a going = rw going refl

ready-acted : (g : SettingsFields) (s : StateFields) (a : Action) → effect_reason s.effects a ≡ None → a ≡ TrainedPerfection → is_spent (acted_of g s a).effects.perfection ≡ false
unfolding acted_of
ready-acted g s TrainedPerfection ready e = grind arith
ready-acted g s _ ready e = absurd (cc)

pub acted-parts : (g : SettingsFields) (s : StateFields) (a : Action) →
    ((acted_of g s a).durability ≡ s.durability - wear_at g s a) × ((acted_of g s a).effects.manipulation ≡ s.effects.manipulation) × ((acted_of g s a).effects.waste ≡ s.effects.waste) × ((acted_of g s a).cp ≡ s.cp - cp_cost_of a g.level s.effects.combo)
unfolding acted_of
acted-parts g s a = (refl, refl, refl, refl)

pub settled-cp : (g : SettingsFields) (before : EffectFields) (a : Action) (s : StateFields) → (settled_of g before a s).cp ≡ s.cp
unfolding settled_of
settled-cp g before a s = refl

charge : (rho sigma cp cp' price h h' u l w w' t k : ℕ) → cp' + price ≤ cp → h' + u ≤ h + l → w' + t ≤ w + k →
    cp' + rho * h' + sigma * w' + (price + (rho * u + sigma * t)) ≤ cp + rho * h + sigma * w + (rho * l + sigma * k)
charge rho sigma cp cp' price h h' u l w w' t k paid strong waste =
    let a : rho * (h' + u) ≤ rho * (h + l) = mul-le-mul_left rho strong in
    let b : sigma * (w' + t) ≤ sigma * (w + k) = mul-le-mul_left sigma waste in
    omega arith

cheaper : (rho sigma d : ℕ) (b : Bool) → wear_cost rho sigma d ≤ rho * (if b then (d + 1) / 2 else d) + sigma * (if b then 1 else 0)
cheaper rho sigma d true = omega arith
cheaper rho sigma d false = omega arith

-- what the action's own effect may add to the potential
abbrev pub lift_worth : SettingsFields → Action → ℕ
lift_worth g a = rho_of g * lift g a + sigma_of g * waste_lift a

-- the law of the potential, for moves and rests alike
pub potential-step : (g : SettingsFields) (s : StateFields) (a : Action) → GoesOn g s a →
    potential_of g (step_of g s a) + cost_of g a ≤ potential_of g s + lift_worth g a
unfolding cost_of
potential-step g s a step =
    let facts : IsAllowedNow g s a = legal_facts g s a step.legal in
    let going : is_over g (acted_of g s a) ≡ false = goes-acted g s a step.live in
    let lasts : (wear_at g s a ≤ s.durability) × (5 ≤ s.durability - wear_at g s a) = lasting g s a going step.within.state.fives in
    let parts = acted-parts g s a in
    let strong = strength-acted g s a step.within.state.fives lasts.0 in
    let full : (acted_of g s a).durability ≤ g.durability = omega (arith, parts.0, step.within.durability) in
    let some : 5 ≤ (acted_of g s a).durability = omega (arith, parts.0, lasts.1) in
    let fives : (acted_of g s a).durability % 5 ≡ 0 = rw parts.0 (fives_less s.durability (wear_at g s a) step.within.state.fives (wear_fives g s a) lasts.0) in
    let settled = strength-settled g s.effects a (acted_of g s a) full some fives (sym parts.1) (ready-acted g s a (effects_allow g s a facts)) in
    let waste = waste-settled g s.effects a (acted_of g s a) parts.2 in
    let cp = settled-cp g s.effects a (acted_of g s a) in
    let combo = combo_cost a g.level s.effects.combo in
    let total = charge (rho_of g) (sigma_of g) s.cp (settled_of g s.effects a (acted_of g s a)).cp (row_of a g.level).combo_cp
    (strength s) (strength (settled_of g s.effects a (acted_of g s a))) (taken g s.effects a) (lift g a)
    s.effects.waste (settled_of g s.effects a (acted_of g s a)).effects.waste (spent_waste s.effects) (waste_lift a)
    (omega (arith, cp, parts.3, facts.paid, combo)) (omega (arith, strong, settled)) (omega (arith, waste, parts.2)) in
    let cheap = cheaper (rho_of g) (sigma_of g) ((row_of a g.level).durability / 5) (halves s.effects) in
    rw (step-settled g s a going, potential-strength g (settled_of g s.effects a (acted_of g s a)), potential-strength g s)
    (omega (arith, total, cheap))

whole_mend : (rho n : ℕ) → rho ≤ 112 / n → rho * n ≤ 112
whole_mend rho n h =
    let a : rho * n ≤ 112 / n * n = mul-le rho n (112 / n) n h (omega arith) in
    omega (arith, div-add-mod' 112 n)

-- what an action adds is paid by its CP
pub lift-paid : (g : SettingsFields) (a : Action) → is_allowed g a ≡ true → lift_worth g a ≤ (row_of a g.level).combo_cp
lift-paid g MastersMend allowed = omega (arith, rho_high g)
lift-paid g ImmaculateMend allowed = omega (arith, whole_mend (rho_of g) (g.durability / 5 - 1) (rho-mend g allowed))
lift-paid g Manipulation allowed = omega (arith, rho-manipulation g allowed)
lift-paid g WasteNot allowed = omega (arith, sigma-waste g allowed)
lift-paid g WasteNotII allowed = omega (arith, sigma-waste_more g allowed)
lift-paid g _ allowed = omega arith

-- and a move adds nothing
pub lift-none : (g : SettingsFields) (a : Action) → is_listed g a ≡ true → lift_worth g a ≡ 0
lift-none g MastersMend listed = grind arith
lift-none g ImmaculateMend listed = grind arith
lift-none g Manipulation listed = grind arith
lift-none g WasteNot listed = grind arith
lift-none g WasteNotII listed = grind arith
lift-none g _ listed = omega arith

pub allowed-now : (g : SettingsFields) (s : StateFields) (a : Action) → IsAllowedNow g s a → is_allowed g a ≡ true
allowed-now g s a facts = rw (facts.learned, facts.free) refl

pub potential_falls : (g : SettingsFields) (s : StateFields) (a : Action) → GoesOn g s a → potential_of g (step_of g s a) ≤ potential_of g s
unfolding cost_of
potential_falls g s a step =
    omega (arith, potential-step g s a step, lift-paid g a (allowed-now g s a (legal_facts g s a step.legal)))
