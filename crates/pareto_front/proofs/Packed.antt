-- States with the same key have equal progress and effects.
use Rattle.std.proofs.Common.{◌≡◌, ◌∙◌, sym, ℕ, ◌+◌, ◌*◌, ◌^◌, ◌<◌, arith}
use Rattle.plain_lemmas.proofs.Tests.{bit, bit_same, bit_small}
use Rattle.craft_state.specs.declared.Combo.{Combo}
use Rattle.craft_state.specs.declared.Combo.TheVariants.{NoCombo, Basic, Standard}
use Rattle.craft_state.specs.declared.Perfection.{Perfection}
use Rattle.craft_state.specs.declared.Perfection.TheVariants.{Ready, On, Spent}
use Rattle.craft_state.specs.Craft.{EffectFields, StateFields, AreEffects}
use Rattle.craft_state.specs.Pack.{combo_number, perfection_number, pack_of}
use Rattle.pareto_front.specs.Keys.{key_of}
use Rattle.prefix_fronts.proofs.Dominance.{combo_same, perfection_same}

combo_small : (c : Combo) → combo_number c < 4
combo_small NoCombo = omega arith
combo_small Basic = omega arith
combo_small Standard = omega arith

perfection_small : (p : Perfection) → perfection_number p < 4
perfection_small Ready = omega arith
perfection_small On = omega arith
perfection_small Spent = omega arith

-- the lowest digits of equal numbers are equal, and so are the others
digits_2 : (x y p q : ℕ) → x < 4 → y < 4 → x + 4 * p ≡ y + 4 * q → (x ≡ y) × (p ≡ q)
digits_2 x y p q h k e = (omega arith, omega arith)

digits_3 : (x y p q : ℕ) → x < 8 → y < 8 → x + 8 * p ≡ y + 8 * q → (x ≡ y) × (p ≡ q)
digits_3 x y p q h k e = (omega arith, omega arith)

digits_4 : (x y p q : ℕ) → x < 16 → y < 16 → x + 16 * p ≡ y + 16 * q → (x ≡ y) × (p ≡ q)
digits_4 x y p q h k e = (omega arith, omega arith)

-- the fields as the digits of one number, digit by digit
nested : (a b c d e f g h i j : ℕ) → a + b * 2 ^ 4 + c * 2 ^ 8 + d * 2 ^ 11 + e * 2 ^ 14 + f * 2 ^ 16 + g * 2 ^ 19 + h * 2 ^ 23 + i * 2 ^ 25 + j * 2 ^ 27
    ≡ a + 16 * (b + 16 * (c + 8 * (d + 8 * (e + 4 * (f + 8 * (g + 16 * (h + 4 * (i + 4 * j))))))))
nested a b c d e f g h i j = omega arith

pub pack-small : (e : EffectFields) → AreEffects e → pack_of e < 2 ^ 28
pack-small e are = omega (arith, are.iq, are.waste, are.innovation, are.veneration, are.strides, are.muscle, are.manipulation, combo_small e.combo, perfection_small e.perfection, bit_small e.first)

pub pack-same : (a b : EffectFields) → AreEffects a → AreEffects b → pack_of a ≡ pack_of b → a ≡ b
pack-same a b are bre h =
    let form = λ (e : EffectFields). nested e.iq e.waste e.innovation e.veneration e.strides e.muscle e.manipulation (combo_number e.combo) (perfection_number e.perfection) (bit e.first) in
    let h0 = digits_4 _ _ _ _ (omega (arith, are.iq)) (omega (arith, bre.iq)) (sym (form a) ∙ h ∙ form b) in
    let h1 = digits_4 _ _ _ _ (omega (arith, are.waste)) (omega (arith, bre.waste)) h0.1 in
    let h2 = digits_3 _ _ _ _ (omega (arith, are.innovation)) (omega (arith, bre.innovation)) h1.1 in
    let h3 = digits_3 _ _ _ _ (omega (arith, are.veneration)) (omega (arith, bre.veneration)) h2.1 in
    let h4 = digits_2 _ _ _ _ (omega (arith, are.strides)) (omega (arith, bre.strides)) h3.1 in
    let h5 = digits_3 _ _ _ _ (omega (arith, are.muscle)) (omega (arith, bre.muscle)) h4.1 in
    let h6 = digits_4 _ _ _ _ (omega (arith, are.manipulation)) (omega (arith, bre.manipulation)) h5.1 in
    let h7 = digits_2 _ _ _ _ (combo_small a.combo) (combo_small b.combo) h6.1 in
    let h8 = digits_2 _ _ _ _ (perfection_small a.perfection) (perfection_small b.perfection) h7.1 in
    let iq = h0.0 in
    let waste = h1.0 in
    let innovation = h2.0 in
    let veneration = h3.0 in
    let strides = h4.0 in
    let muscle = h5.0 in
    let manipulation = h6.0 in
    let combo = combo_same a.combo b.combo h7.0 in
    let perfection = perfection_same a.perfection b.perfection h8.0 in
    let first = bit_same a.first b.first h8.1 in
    λ i. record {
      iq = iq i;
      waste = waste i;
      innovation = innovation i;
      veneration = veneration i;
      strides = strides i;
      muscle = muscle i;
      manipulation = manipulation i;
      combo = combo i;
      perfection = perfection i;
      first = first i;
    }

high_low : (p q x y : ℕ) → x < 2 ^ 28 → y < 2 ^ 28 → p * 2 ^ 28 + x ≡ q * 2 ^ 28 + y → (p ≡ q) × (x ≡ y)
high_low p q x y h k e = (omega arith, omega arith)

pub key-same : (a b : StateFields) → AreEffects a.effects → AreEffects b.effects → key_of a ≡ key_of b → (a.progress ≡ b.progress) × (a.effects ≡ b.effects)
unfolding key_of
key-same a b are bre h =
    let both = high_low a.progress b.progress (pack_of a.effects) (pack_of b.effects) (pack-small a.effects are) (pack-small b.effects bre) h in
    (both.0, pack-same a.effects b.effects are bre both.1)

pub same-key : (a b : StateFields) → a.progress ≡ b.progress → a.effects ≡ b.effects → key_of a ≡ key_of b
unfolding key_of
same-key a b h k = λ i. h i * 2 ^ 28 + pack_of (k i)
