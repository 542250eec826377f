-- The limits of the next state, and of the last.
use Rattle.std.proofs.Common.{ℕ, Bool, true, false, [], Option, Some, None, ◌≡◌, ◌≤◌, ◌<◌, ◌+◌, ◌-◌, ◌*◌, ◌/◌, ◌%◌, ◌||◌, ◌==◌, nat_lt, nat_le, min, refl, ◌∙◌, sym, subst, arith, if◌then◌else◌}
use Rattle.plain_lemmas.proofs.Tests.{eq_from, or_none}
use Rattle.std.specs.Option.{option_map}
use Rattle.std.proofs.lemmas.Nat.{div-add-mod', mul-le, div_below}
use Rattle.action_table.specs.declared.action.Action.{Action}
use Rattle.action_table.specs.declared.action.Action.TheVariants.{BasicSynthesis, Groundwork}
use Rattle.action_table.specs.Table.{row_of}
use Rattle.craft_state.specs.Craft.{StateFields}
use Rattle.craft_settings.specs.Ranges.{SettingsFields}
use Rattle.craft_settings.specs.Rules.{is_allowed, cap_of}
use Rattle.step_rules.specs.Legality.{is_over, IsWithin, IsAllowedNow}
use Rattle.step_rules.specs.Macro.{counted}
use Rattle.step_rules.specs.Step.{progress_after, quality_after, acted_of, settled_of, step_of}
use Rattle.step_rules.proofs.LegalFacts.{legal_facts, effects_allow}
use Rattle.relaxed_moves.specs.Budget.{rho_of, slack_of, cost_of, potential_of}
use Rattle.relaxed_moves.specs.Moves.{RelaxedFields, AreRelaxed, IsNoBetter, is_listed, is_move_of, unit_of, relax_of, move_gain_of, move_progress, move_on_of}
use Rattle.relaxed_moves.specs.declared.places.TheConstants.{MOST_MOVES}
use Rattle.relaxed_moves.specs.Optimum.{option_le, ArePriced, best_plan, worth, one, capped, limit_of, within_of}
use Rattle.relaxed_moves.proofs.Greatest.{option_le-trans}
use Rattle.relaxed_moves.proofs.Plans.{map_le, worth-nil, best_plan-move, best_plan-upper}
use Rattle.relaxed_moves.proofs.Order.{best_plan-no_better, AreRelaxed-move_on, AreRelaxed-relax}
use Rattle.relaxed_moves.proofs.Costs.{ArePriced-cost, ArePriced-one, unit_positive}
use Rattle.admissible.specs.Laws.{GoesOn, Finishes}
use Rattle.admissible.proofs.Potential.{potential-step, potential_falls, lift-none, allowed-now, potential-strength, strength}
use Rattle.admissible.proofs.Relaxing.{opens, opens-not, relaxed-step, quality-step, rest-worse, rest-gain, rest-progress, IsNoBetter-trans, moves-legal, progress-le, quality-le}
use Rattle.plain_lemmas.proofs.Numbers.{some_fives, made_progress}
use Rattle.relaxed_moves.proofs.RestPrices.{combo_cost}

-- what a move adds to the best plan after it
law-move : (price : Action → ℕ) (g : SettingsFields) (grain budget budget' : ℕ) (x x' : RelaxedFields) (a : Action) →
    ArePriced price g → 0 < unit_of g grain → is_move_of g x a ≡ true → budget' + price a ≤ budget → IsNoBetter x' (move_on_of g grain x a) → AreRelaxed x →
    option_le (option_map (λ n. move_gain_of g x a + n) (best_plan price g grain budget' x')) (best_plan price g grain budget x)
law-move price g grain budget budget' x x' a priced positive may paid worse bounds =
    option_le-trans _ _ _
    (map_le (move_gain_of g x a) _ _ (best_plan-no_better price g grain budget' (budget - price a) x' (move_on_of g grain x a) priced positive (omega arith) worse (AreRelaxed-move_on g grain x a bounds)))
    (best_plan-move price g grain budget x a priced may (omega arith))

map_none : (gain : ℕ) (o r : Option ℕ) → gain ≡ 0 → option_le o r → option_le (option_map (λ n. gain + n) o) r
map_none gain None r none h = tt
map_none gain (Some a) None none h = absurd h
map_none gain (Some a) (Some b) none h = omega arith

-- a rest adds nothing
law-rest : (price : Action → ℕ) (g : SettingsFields) (grain budget budget' : ℕ) (x x' : RelaxedFields) (a : Action) →
    ArePriced price g → 0 < unit_of g grain → move_gain_of g x a ≡ 0 → budget' ≤ budget → IsNoBetter x' x → AreRelaxed x →
    option_le (option_map (λ n. move_gain_of g x a + n) (best_plan price g grain budget' x')) (best_plan price g grain budget x)
law-rest price g grain budget budget' x x' a priced positive none less worse bounds =
    map_none (move_gain_of g x a) _ _ none (best_plan-no_better price g grain budget' budget x' x priced positive less worse bounds)

-- a step from a later state, as both laws need it
pub record Later (g : SettingsFields) (grain : ℕ) (s : StateFields) (a : Action) : Type 0 where
  pub step : GoesOn g s a
  pub first : s.effects.first ≡ false
  pub low : 1 ≤ grain

later-opens : (g : SettingsFields) (grain : ℕ) (s : StateFields) (a : Action) → Later g grain s a → opens a ≡ false
later-opens g grain s a later = opens-not s.effects a later.first (effects_allow g s a (legal_facts g s a later.step.legal))

positive-unit : (g : SettingsFields) (grain : ℕ) (s : StateFields) (a : Action) → Later g grain s a → 0 < unit_of g grain
positive-unit g grain s a later = unit_positive g grain later.step.within.settings later.low

pub move-law : (g : SettingsFields) (grain : ℕ) (s : StateFields) (a : Action) → Later g grain s a →
    IsNoBetter (relax_of g grain (step_of g s a)) (move_on_of g grain (relax_of g grain s) a)
move-law g grain s a later = relaxed-step g grain s a (positive-unit g grain s a later) later.step (later-opens g grain s a later)

pub move-potential : (g : SettingsFields) (grain : ℕ) (s : StateFields) (a : Action) → Later g grain s a → is_listed g a ≡ true →
    potential_of g (step_of g s a) + cost_of g a ≤ potential_of g s
move-potential g grain s a later listed = omega (arith, potential-step g s a later.step, lift-none g a listed)

pub rest-law : (g : SettingsFields) (grain : ℕ) (s : StateFields) (a : Action) → Later g grain s a → is_listed g a ≡ false →
    IsNoBetter (relax_of g grain (step_of g s a)) (relax_of g grain s)
rest-law g grain s a later rest =
    IsNoBetter-trans _ _ _ (move-law g grain s a later)
    (rest-worse g grain (relax_of g grain s) a (positive-unit g grain s a later) (allowed-now g s a (legal_facts g s a later.step.legal)) rest (later-opens g grain s a later))

-- the best plan after the step, with the step's gain, by any price and budgets
law-step : (price : Action → ℕ) (g : SettingsFields) (grain budget budget' : ℕ) (s : StateFields) (a : Action) → ArePriced price g → Later g grain s a →
    (is_listed g a ≡ true → budget' + price a ≤ budget) → budget' ≤ budget →
    option_le (option_map (λ n. move_gain_of g (relax_of g grain s) a + n) (best_plan price g grain budget' (relax_of g grain (step_of g s a)))) (best_plan price g grain budget (relax_of g grain s))
law-step price g grain budget budget' s a priced later paid less =
    let facts : IsAllowedNow g s a = legal_facts g s a later.step.legal in
    let positive : 0 < unit_of g grain = positive-unit g grain s a later in
    let bounds : AreRelaxed (relax_of g grain s) = AreRelaxed-relax g grain s later.step.within.effects in
    elim (is_listed g a) as (λ b. is_listed g a ≡ b → option_le (option_map (λ n. move_gain_of g (relax_of g grain s) a + n) (best_plan price g grain budget' (relax_of g grain (step_of g s a)))) (best_plan price g grain budget (relax_of g grain s))) [
      | true ↦ λ listed.
          law-move price g grain budget budget' (relax_of g grain s) (relax_of g grain (step_of g s a)) a priced positive (moves-legal g grain s a (effects_allow g s a facts) listed) (paid listed) (move-law g grain s a later) bounds
      | false ↦ λ rest.
          law-rest price g grain budget budget' (relax_of g grain s) (relax_of g grain (step_of g s a)) a priced positive (rest-gain g (relax_of g grain s) a (allowed-now g s a facts) rest (later-opens g grain s a later)) less (rest-law g grain s a later rest) bounds
    ] refl

-- quality and the best plan together
capped-le : (g : SettingsFields) (s s' : StateFields) (gain : ℕ) (o o' : Option ℕ) → s'.quality ≤ s.quality + gain → option_le (option_map (λ n. gain + n) o') o →
    option_le (capped g s' o') (capped g s o)
capped-le g s s' gain o None more h = tt
capped-le g s s' gain None (Some b) more h = absurd h
capped-le g s s' gain (Some a) (Some b) more h = omega arith

pub capped-most : (g : SettingsFields) (s : StateFields) (o : Option ℕ) → option_le (capped g s o) (Some (cap_of g))
capped-most g s None = tt
capped-most g s (Some a) = omega arith

pub limit-law : (g : SettingsFields) (grain : ℕ) (s : StateFields) (a : Action) → Later g grain s a →
    option_le (limit_of g grain (step_of g s a)) (limit_of g grain s)
unfolding limit_of
limit-law g grain s a later =
    capped-le g s (step_of g s a) (move_gain_of g (relax_of g grain s) a) _ _
    (quality-step g grain s a later.step (later-opens g grain s a later))
    (law-step (cost_of g) g grain (potential_of g s) (potential_of g (step_of g s a)) s a (ArePriced-cost g later.step.within.settings) later
    (move-potential g grain s a later) (potential_falls g s a later.step))

within-by : (c' c : Bool) (m : ℕ) (o' o : Option ℕ) → (c ≡ true → c' ≡ true) → option_le o' o → option_le o' (Some m) →
    option_le (if c' then o' else Some m) (if c then o else Some m)
within-by true true m o' o h le most = le
within-by true false m o' o h le most = most
within-by false true m o' o h le most = let e : false ≡ true = h refl in absurd (cc)
within-by false false m o' o h le most = omega arith

fewer : (j : ℕ) → nat_le j MOST_MOVES ≡ true → nat_le (j - 1) MOST_MOVES ≡ true
fewer j h = grind arith

pub within-law : (g : SettingsFields) (grain : ℕ) (s : StateFields) (a : Action) (j : ℕ) → Later g grain s a → 1 ≤ j →
    option_le (within_of g grain (step_of g s a) (j - 1)) (within_of g grain s j)
unfolding within_of
within-law g grain s a j later some =
    within-by (nat_le (j - 1) MOST_MOVES) (nat_le j MOST_MOVES) (cap_of g) _ _ (fewer j)
    (capped-le g s (step_of g s a) (move_gain_of g (relax_of g grain s) a) _ _
    (quality-step g grain s a later.step (later-opens g grain s a later))
    (law-step one g grain j (j - 1) s a (ArePriced-one g) later (λ listed. omega arith) (omega arith)))
    (capped-most g (step_of g s a) _)

-- progress and quality after a step, whether it ends the craft or not
pub step-parts : (g : SettingsFields) (s : StateFields) (a : Action) → ((step_of g s a).progress ≡ progress_after g s a) × ((step_of g s a).quality ≡ quality_after g s a)
unfolding step_of acted_of settled_of
step-parts g s a =
    elim (is_over g (acted_of g s a)) as (λ b. ((if b then acted_of g s a else settled_of g s.effects a (acted_of g s a)).progress ≡ progress_after g s a) × ((if b then acted_of g s a else settled_of g s.effects a (acted_of g s a)).quality ≡ quality_after g s a)) [
      | true ↦ (refl, refl)
      | false ↦ (refl, refl)
    ]

-- a last step from a later state
pub record Last (g : SettingsFields) (grain : ℕ) (s : StateFields) (a : Action) : Type 0 where
  pub step : Finishes g s a
  pub first : s.effects.first ≡ false
  pub low : 1 ≤ grain

no_gain : (n : ℕ) → n ≡ 0 → nat_lt 0 n ≡ true → ⊥
no_gain n none h = grind arith

-- what the last action may overdraw
overdraw : (g : SettingsFields) (a : Action) → is_allowed g a ≡ true → nat_lt 0 (row_of a g.level).progress ≡ true →
    rho_of g * ((row_of a g.level).durability / 5) ≤ rho_of g + slack_of g
unfolding slack_of
overdraw g Groundwork allowed some = rw allowed (omega arith)
overdraw g BasicSynthesis allowed some = grind arith
overdraw g _ allowed some = grind arith

spare : (rho h : ℕ) → 1 ≤ h → rho ≤ rho * h
spare rho h some = let a : rho * 1 ≤ rho * h = mul-le rho 1 rho h (omega arith) some in omega arith

-- the last action is within the budget
last-paid : (g : SettingsFields) (s : StateFields) (a : Action) → IsWithin g s → IsAllowedNow g s a → is_allowed g a ≡ true → nat_lt 0 (row_of a g.level).progress ≡ true →
    cost_of g a ≤ potential_of g s
unfolding cost_of
last-paid g s a within facts allowed some =
    let over = overdraw g a allowed some in
    let left : 1 ≤ s.durability / 5 = some_fives s.durability (or_none (s.progress == g.progress) (s.durability == 0) facts.live).1 within.state.fives in
    let worth : rho_of g ≤ rho_of g * strength s = spare (rho_of g) (strength s) (omega arith) in
    let combo = combo_cost a g.level s.effects.combo in
    rw (potential-strength g s) (omega (arith, over, worth, combo, facts.paid))

zero-bucket : (p n u gain : ℕ) → 0 < u → p ≤ n + gain → ((p - n) / u * u - gain) / u ≡ 0
zero-bucket p n u gain positive h =
    let whole = div-add-mod' (p - n) u in
    let below : ((p - n) / u * u - gain) / u < 1 = div_below ((p - n) / u * u - gain) u 1 positive (omega arith) in
    omega arith

last-bucket_by : (g : SettingsFields) (grain : ℕ) (s : StateFields) (a : Action) → 0 < unit_of g grain → g.progress ≤ s.progress + move_progress g (relax_of g grain s) a →
    (move_on_of g grain (relax_of g grain s) a).bucket ≡ 0
unfolding move_on_of relax_of
last-bucket_by g grain s a positive done = zero-bucket g.progress s.progress (unit_of g grain) _ positive done

last-bucket : (g : SettingsFields) (grain : ℕ) (s : StateFields) (a : Action) → 0 < unit_of g grain → g.progress ≤ progress_after g s a →
    (move_on_of g grain (relax_of g grain s) a).bucket ≡ 0
last-bucket g grain s a positive done =
    last-bucket_by g grain s a positive (omega (arith, done, progress-le g grain s a))

empty-plan : (price : Action → ℕ) (g : SettingsFields) (grain budget : ℕ) (x : RelaxedFields) → ArePriced price g → x.bucket ≡ 0 →
    option_le (Some 0) (best_plan price g grain budget x)
empty-plan price g grain budget x priced none =
    let nil : worth price g grain budget x [] ≡ Some 0 = worth-nil price g grain budget x ∙ rw none refl in
    subst (λ o. option_le o (best_plan price g grain budget x)) nil (best_plan-upper price g grain budget x [] priced)

lone-plan : (price : Action → ℕ) (g : SettingsFields) (grain budget : ℕ) (x : RelaxedFields) (a : Action) → ArePriced price g → is_move_of g x a ≡ true → price a ≤ budget →
    (move_on_of g grain x a).bucket ≡ 0 → option_le (Some (move_gain_of g x a + 0)) (best_plan price g grain budget x)
lone-plan price g grain budget x a priced may paid none =
    option_le-trans (Some (move_gain_of g x a + 0)) _ _
    (map_le (move_gain_of g x a) (Some 0) _ (empty-plan price g grain (budget - price a) (move_on_of g grain x a) priced none))
    (best_plan-move price g grain budget x a priced may paid)

capped-some : (g : SettingsFields) (s : StateFields) (q gain : ℕ) (o : Option ℕ) → q ≤ s.quality + gain → option_le (Some (gain + 0)) o →
    option_le (Some (min (cap_of g) q)) (capped g s o)
capped-some g s q gain None more h = absurd h
capped-some g s q gain (Some a) more h = omega arith

listed-by : (g : SettingsFields) (a : Action) → is_allowed g a ≡ true → nat_lt 0 (row_of a g.level).progress ≡ true → opens a ≡ false → is_listed g a ≡ true
listed-by g a allowed some later =
    elim (is_listed g a) as (λ b. is_listed g a ≡ b → is_listed g a ≡ true) [
      | true ↦ λ e. e
      | false ↦ λ e. absurd (no_gain _ (rest-progress g a allowed e later) some)
    ] refl

pub record LastFacts (g : SettingsFields) (grain : ℕ) (s : StateFields) (a : Action) : Type 0 where
  pub may : is_move_of g (relax_of g grain s) a ≡ true
  pub paid : cost_of g a ≤ potential_of g s
  pub bucket : (move_on_of g grain (relax_of g grain s) a).bucket ≡ 0
  pub quality : (step_of g s a).quality ≤ s.quality + move_gain_of g (relax_of g grain s) a

pub last-facts : (g : SettingsFields) (grain : ℕ) (s : StateFields) (a : Action) → Last g grain s a → LastFacts g grain s a
last-facts g grain s a last =
    let facts : IsAllowedNow g s a = legal_facts g s a last.step.legal in
    let allowed : is_allowed g a ≡ true = allowed-now g s a facts in
    let later : opens a ≡ false = opens-not s.effects a last.first (effects_allow g s a facts) in
    let positive : 0 < unit_of g grain = unit_positive g grain last.step.within.settings last.low in
    let parts = step-parts g s a in
    let done : progress_after g s a ≡ g.progress = sym parts.0 ∙ eq_from _ _ last.step.done in
    let some : nat_lt 0 (row_of a g.level).progress ≡ true = made_progress _ _ _ _ done (or_none (s.progress == g.progress) (s.durability == 0) facts.live).0 in
    record {
      may = moves-legal g grain s a (effects_allow g s a facts) (listed-by g a allowed some later);
      paid = last-paid g s a last.step.within facts allowed some;
      bucket = last-bucket g grain s a positive (omega (arith, done));
      quality = rw parts.1 (quality-le g grain s a later);
    }

pub last-limit : (g : SettingsFields) (grain : ℕ) (s : StateFields) (a : Action) → Last g grain s a →
    option_le (Some (counted g (step_of g s a))) (limit_of g grain s)
unfolding limit_of
last-limit g grain s a last =
    let facts : LastFacts g grain s a = last-facts g grain s a last in
    capped-some g s (step_of g s a).quality (move_gain_of g (relax_of g grain s) a) _ facts.quality
    (lone-plan (cost_of g) g grain (potential_of g s) (relax_of g grain s) a (ArePriced-cost g last.step.within.settings) facts.may facts.paid facts.bucket)

capped-if : (c : Bool) (m q : ℕ) (o : Option ℕ) → option_le (Some (min m q)) o → option_le (Some (min m q)) (if c then o else Some m)
capped-if true m q o h = h
capped-if false m q o h = omega arith

pub last-within : (g : SettingsFields) (grain : ℕ) (s : StateFields) (a : Action) (j : ℕ) → Last g grain s a → 1 ≤ j →
    option_le (Some (counted g (step_of g s a))) (within_of g grain s j)
unfolding within_of
last-within g grain s a j last some =
    let facts : LastFacts g grain s a = last-facts g grain s a last in
    capped-if (nat_le j MOST_MOVES) (cap_of g) (step_of g s a).quality _
    (capped-some g s (step_of g s a).quality (move_gain_of g (relax_of g grain s) a) _ facts.quality
    (lone-plan one g grain j (relax_of g grain s) a (ArePriced-one g) facts.may some facts.bucket))
