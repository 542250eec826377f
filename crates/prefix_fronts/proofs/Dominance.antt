-- Dominance is a strict order that passes to children.
use Rattle.std.proofs.Common.{◌≡◌, ◌∙◌, ℕ, ◌+◌, Bool, true, false, not, ◌&&◌, ◌||◌, ◌==◌, nat_lt, List, [], ◌∷◌, ◌++◌, length, arith, refl, ap}
use Rattle.plain_lemmas.proofs.Tests.{eq_from, and_both, and_by, le_from, le_to, not_true, same_number}
use Rattle.std.proofs.lemmas.Bool.Decides.{nat_tests}
use Rattle.action_table.specs.declared.action.Action.{Action}
use Rattle.craft_state.specs.declared.Combo.{Combo}
use Rattle.craft_state.specs.declared.Combo.TheVariants.{NoCombo, Basic, Standard}
use Rattle.craft_state.specs.declared.Perfection.{Perfection}
use Rattle.craft_state.specs.declared.Perfection.TheVariants.{Ready, On, Spent}
use Rattle.craft_state.specs.Craft.{EffectFields, StateFields}
use Rattle.craft_state.specs.Pack.{combo_number, perfection_number}
use Rattle.craft_settings.specs.Ranges.{SettingsFields}
use Rattle.step_rules.specs.Legality.{is_legal, is_over}
use Rattle.step_rules.specs.Step.{step_of}
use Rattle.craft_state.specs.NotLess.{IsNotLess, same_bool, same_effects, is_not_less}
use Rattle.macro_order.specs.Order.{precedes}
use Rattle.macro_order.proofs.Transitive.{step_trans, precedes-transitive}
use Rattle.dominance.proofs.Children.{is_legal-not_less, IsNotLess-step, also_live}
use Rattle.prefix_fronts.specs.Prefix.{Prefix, extend, goes_on, is_sooner, dominates}

pub combo_same : (a b : Combo) → combo_number a ≡ combo_number b → a ≡ b
combo_same NoCombo NoCombo h = refl
combo_same NoCombo Basic h = absurd (omega arith)
combo_same NoCombo Standard h = absurd (omega arith)
combo_same Basic NoCombo h = absurd (omega arith)
combo_same Basic Basic h = refl
combo_same Basic Standard h = absurd (omega arith)
combo_same Standard NoCombo h = absurd (omega arith)
combo_same Standard Basic h = absurd (omega arith)
combo_same Standard Standard h = refl

pub perfection_same : (a b : Perfection) → perfection_number a ≡ perfection_number b → a ≡ b
perfection_same Ready Ready h = refl
perfection_same Ready On h = absurd (omega arith)
perfection_same Ready Spent h = absurd (omega arith)
perfection_same On Ready h = absurd (omega arith)
perfection_same On On h = refl
perfection_same On Spent h = absurd (omega arith)
perfection_same Spent Ready h = absurd (omega arith)
perfection_same Spent On h = absurd (omega arith)
perfection_same Spent Spent h = refl

bool_same : (a b : Bool) → same_bool a b ≡ true → a ≡ b
bool_same true true h = refl
bool_same true false h = cc
bool_same false true h = cc
bool_same false false h = refl

bool_same-refl : (a : Bool) → same_bool a a ≡ true
bool_same-refl true = refl
bool_same-refl false = refl

pub effects_same : (a b : EffectFields) → same_effects a b ≡ true → a ≡ b
unfolding same_effects
effects_same a b h =
    let h9 = and_both _ _ h in
    let h8 = and_both _ _ h9.0 in
    let h7 = and_both _ _ h8.0 in
    let h6 = and_both _ _ h7.0 in
    let h5 = and_both _ _ h6.0 in
    let h4 = and_both _ _ h5.0 in
    let h3 = and_both _ _ h4.0 in
    let h2 = and_both _ _ h3.0 in
    let h1 = and_both _ _ h2.0 in
    let iq = eq_from _ _ h1.0 in
    let waste = eq_from _ _ h1.1 in
    let innovation = eq_from _ _ h2.1 in
    let veneration = eq_from _ _ h3.1 in
    let strides = eq_from _ _ h4.1 in
    let muscle = eq_from _ _ h5.1 in
    let manipulation = eq_from _ _ h6.1 in
    let combo = combo_same _ _ (eq_from _ _ h7.1) in
    let perfection = perfection_same _ _ (eq_from _ _ h8.1) in
    let first = bool_same _ _ h9.1 in
    λ i. record {
      iq = iq i;
      waste = waste i;
      innovation = innovation i;
      veneration = veneration i;
      strides = strides i;
      muscle = muscle i;
      manipulation = manipulation i;
      combo = combo i;
      perfection = perfection i;
      first = first i;
    }

pub effects_same-refl : (a : EffectFields) → same_effects a a ≡ true
unfolding same_effects
effects_same-refl a =
    rw (same_number a.iq, same_number a.waste, same_number a.innovation, same_number a.veneration, same_number a.strides, same_number a.muscle, same_number a.manipulation, same_number (combo_number a.combo), same_number (perfection_number a.perfection)) (bool_same-refl a.first)

pub IsNotLess-from : (a b : StateFields) → is_not_less a b ≡ true → IsNotLess a b
unfolding is_not_less
IsNotLess-from a b h =
    let h4 = and_both _ _ h in
    let h3 = and_both _ _ h4.0 in
    let h2 = and_both _ _ h3.0 in
    let h1 = and_both _ _ h2.0 in
    record {
      progress = eq_from _ _ h1.0;
      effects = effects_same _ _ h1.1;
      cp = le_from _ _ h2.1;
      durability = le_from _ _ h3.1;
      quality = le_from _ _ h4.1;
    }

pub is_not_less-by : (a b : StateFields) → IsNotLess a b → is_not_less a b ≡ true
unfolding is_not_less
is_not_less-by a b h =
    let progress : (a.progress == b.progress) ≡ true = rw h.progress (same_number b.progress) in
    let effects : same_effects a.effects b.effects ≡ true = rw h.effects (effects_same-refl b.effects) in
    rw (progress, effects, le_to _ _ h.cp, le_to _ _ h.durability, le_to _ _ h.quality) refl

pub IsNotLess-trans : (a b c : StateFields) → IsNotLess a b → IsNotLess b c → IsNotLess a c
IsNotLess-trans a b c h k = record {
  progress = h.progress ∙ k.progress;
  effects = h.effects ∙ k.effects;
  cp = omega (arith, h.cp, k.cp);
  durability = omega (arith, h.durability, k.durability);
  quality = omega (arith, h.quality, k.quality);
}

-- the order of lists
pub precedes-irreflexive : (m : List Action) → precedes m m ≡ false
precedes-irreflexive [] = refl
precedes-irreflexive (a ∷ m) = let h = precedes-irreflexive m in grind (arith, nat_tests, h)

pub precedes-more : (m n : List Action) (a : Action) → length m ≡ length n → precedes (m ++ a ∷ []) (n ++ a ∷ []) ≡ precedes m n
precedes-more [] [] a same = precedes-irreflexive (a ∷ [])
precedes-more [] (b ∷ n) a same = absurd (omega (arith, same))
precedes-more (b ∷ m) [] a same = absurd (omega (arith, same))
precedes-more (b ∷ m) (c ∷ n) a same = let tail : length m ≡ length n = omega (arith, same) in rw (precedes-more m n a tail) refl

sooner_irr : (s : ℕ) (p : Bool) → p ≡ false → (nat_lt s s || (s == s && p)) ≡ false
sooner_irr s p h = grind (arith, nat_tests)

pub dominates-irreflexive : (p : Prefix) → dominates p p ≡ false
unfolding dominates
dominates-irreflexive p =
    let sooner = sooner_irr p.seconds (precedes p.actions p.actions) (precedes-irreflexive p.actions) in
    rw sooner (elim (is_not_less p.state p.state) as (λ b. (b && false) ≡ false) [ true ↦ refl | false ↦ refl ])

pub dominates-transitive : (p q r : Prefix) → dominates p q ≡ true → dominates q r ≡ true → dominates p r ≡ true
unfolding dominates
dominates-transitive p q r h k =
    let hs = and_both _ _ h in
    let ks = and_both _ _ k in
    and_by _ _ (is_not_less-by _ _ (IsNotLess-trans _ _ _ (IsNotLess-from _ _ hs.0) (IsNotLess-from _ _ ks.0)))
    (step_trans p.seconds q.seconds r.seconds _ _ _ (precedes-transitive p.actions q.actions r.actions) hs.1 ks.1)

pub IsNotLess-dominates : (p q : Prefix) → dominates p q ≡ true → IsNotLess p.state q.state
unfolding dominates
IsNotLess-dominates p q h = IsNotLess-from _ _ (and_both _ _ h).0

sooner_more : (x y d : ℕ) (p q : Bool) → q ≡ p → (nat_lt x y || (x == y && p)) ≡ true → (nat_lt (x + d) (y + d) || (x + d == y + d && q)) ≡ true
sooner_more x y d p q same h = grind (arith, nat_tests)

pub is_sooner-more : (g : SettingsFields) (p q : Prefix) (a : Action) → length p.actions ≡ length q.actions → is_sooner p q ≡ true → is_sooner (extend g p a) (extend g q a) ≡ true
is_sooner-more g p q a same h = sooner_more p.seconds q.seconds _ _ _ (precedes-more p.actions q.actions a same) h

pub goes_on-parts : (g : SettingsFields) (s : StateFields) (a : Action) → goes_on g s a ≡ true → (is_legal g s a ≡ true) × (is_over g (step_of g s a) ≡ false)
goes_on-parts g s a h = let parts = and_both _ _ h in (parts.0, not_true _ parts.1)

pub goes_on-by : (g : SettingsFields) (s : StateFields) (a : Action) → is_legal g s a ≡ true → is_over g (step_of g s a) ≡ false → goes_on g s a ≡ true
goes_on-by g s a legal live = and_by _ _ legal (ap not live)

-- a live child of a dominated prefix is dominated
pub child_dominated : (g : SettingsFields) (q p : Prefix) (a : Action) → length q.actions ≡ length p.actions → dominates q p ≡ true → goes_on g p.state a ≡ true →
    (goes_on g q.state a ≡ true) × (dominates (extend g q a) (extend g p a) ≡ true)
unfolding dominates
child_dominated g q p a same h go =
    let parts = goes_on-parts g p.state a go in
    let both = and_both _ _ h in
    let not_less = IsNotLess-from _ _ both.0 in
    let next = IsNotLess-step g q.state p.state a not_less parts.1 in (
      goes_on-by g q.state a (is_legal-not_less g q.state p.state a not_less parts.0) (also_live g _ _ next parts.1),
      and_by _ _ (is_not_less-by _ _ next) (is_sooner-more g q p a same both.1),
    )
