-- The digits of a sight's number.
use Rattle.std.proofs.Common.{ℕ, Bool, true, false, ◌≡◌, ◌≤◌, ◌<◌, ◌+◌, ◌*◌, ◌/◌, ◌%◌, ◌==◌, refl, ◌∙◌, ap, sym, arith}
use Rattle.std.proofs.lemmas.Nat.{div_below, mod_below, div-add-mod', div-mul-add, mod-mul-add, mul-le}
use Rattle.craft_state.specs.declared.Combo.TheVariants.{NoCombo}
use Rattle.relaxed_moves.specs.Places.{bit}
use Rattle.priced_moves.specs.FirstMoves.{at_need, without_combo}
use Rattle.priced_moves.specs.Moves.{SeenFields}
use Rattle.priced_graph.specs.Sights.{SightsFields, AreSights, IsSeenIn, IsSight, node_count, number_of, seen_at}

bit_small : (on : Bool) → bit on ≤ 1
bit_small true = omega arith
bit_small false = omega arith

bit_eqb : (on : Bool) → (bit on == 1) ≡ on
bit_eqb true = refl
bit_eqb false = refl

bit_of : (n : ℕ) → n < 2 → bit (n == 1) ≡ n
bit_of n h = grind arith

-- products of counts
pub times_11 : (a b : ℕ) → a ≤ 11 → b ≤ 5 → a * b ≤ 55
times_11 a b h k = mul-le a b 11 5 h k

pub times_55 : (a b : ℕ) → a ≤ 55 → b ≤ 5 → a * b ≤ 275
times_55 a b h k = mul-le a b 55 5 h k

pub times_275 : (a b : ℕ) → a ≤ 275 → b ≤ 2 → a * b ≤ 550
times_275 a b h k = mul-le a b 275 2 h k

pub times_550 : (a b : ℕ) → a ≤ 550 → b ≤ 2 → a * b ≤ 1100
times_550 a b h k = mul-le a b 550 2 h k

pub times_1100 : (a b : ℕ) → a ≤ 1100 → b ≤ 2 → a * b ≤ 2200
times_1100 a b h k = mul-le a b 1100 2 h k

pub ruleset counts = (times_11, times_55, times_275, times_550, times_1100)

-- products of numbers below them
pub below_11 : (a b : ℕ) → a ≤ 10 → b ≤ 5 → a * b ≤ 50
below_11 a b h k = mul-le a b 10 5 h k

pub below_55 : (a b : ℕ) → a ≤ 54 → b ≤ 5 → a * b ≤ 270
below_55 a b h k = mul-le a b 54 5 h k

pub below_275 : (a b : ℕ) → a ≤ 274 → b ≤ 2 → a * b ≤ 548
below_275 a b h k = mul-le a b 274 2 h k

pub below_550 : (a b : ℕ) → a ≤ 549 → b ≤ 2 → a * b ≤ 1098
below_550 a b h k = mul-le a b 549 2 h k

pub below_1100 : (a b : ℕ) → a ≤ 1099 → b ≤ 2 → a * b ≤ 2198
below_1100 a b h k = mul-le a b 1099 2 h k

pub ruleset products = (below_11, below_55, below_275, below_550, below_1100)

-- a number with one digit more
digit_below : (n d m k : ℕ) → n < m → d < k → n * k + d < m * k
digit_below n d m k less small = let product : (n + 1) * k ≤ m * k = mul-le (n + 1) k m k (omega arith) (omega arith) in omega arith

pub node_count_small : (c : SightsFields) → AreSights c → node_count c ≤ 2200
node_count_small c are =
    let a = times_11 c.iq c.innovation are.iq.high are.innovation.high in
    let b = times_55 _ c.veneration a are.veneration.high in
    let d = times_275 _ c.strides b are.strides.high in
    let e = times_550 _ c.muscle d are.muscle.high in
    times_1100 _ c.begun e are.begun.high

pub number-below : (c : SightsFields) (x : SeenFields) → IsSeenIn c x → number_of c x < node_count c
number-below c x in_c =
    digit_below _ _ _ c.begun
    (digit_below _ _ _ c.muscle
    (digit_below _ _ _ c.strides
    (digit_below _ _ _ c.veneration (digit_below _ _ _ c.innovation in_c.iq in_c.innovation) in_c.veneration)
    in_c.strides)
    in_c.muscle)
    in_c.begun

-- what is seen at the number of what is seen
pub seen-number : (c : SightsFields) (x : SeenFields) → IsSeenIn c x → seen_at c (number_of c x) ≡ at_need (without_combo x) 0
unfolding seen_at
seen-number c x in_c =
    let steps : ℕ = x.iq * c.innovation + x.innovation in
    let both : ℕ = steps * c.veneration + x.veneration in
    let touches : ℕ = both * c.strides + bit x.strides in
    let all : ℕ = touches * c.muscle + bit x.muscle in
    let to_all : number_of c x / c.begun ≡ all = div-mul-add all c.begun (bit x.begun) in_c.begun in
    let to_touches : number_of c x / c.begun / c.muscle ≡ touches = ap (λ (n : ℕ). n / c.muscle) to_all ∙ div-mul-add touches c.muscle (bit x.muscle) in_c.muscle in
    let to_both : number_of c x / c.begun / c.muscle / c.strides ≡ both = ap (λ (n : ℕ). n / c.strides) to_touches ∙ div-mul-add both c.strides (bit x.strides) in_c.strides in
    let to_steps : number_of c x / c.begun / c.muscle / c.strides / c.veneration ≡ steps = ap (λ (n : ℕ). n / c.veneration) to_both ∙ div-mul-add steps c.veneration x.veneration in_c.veneration in
    let iq : number_of c x / c.begun / c.muscle / c.strides / c.veneration / c.innovation ≡ x.iq = ap (λ (n : ℕ). n / c.innovation) to_steps ∙ div-mul-add x.iq c.innovation x.innovation in_c.innovation in
    let innovation : number_of c x / c.begun / c.muscle / c.strides / c.veneration % c.innovation ≡ x.innovation = ap (λ (n : ℕ). n % c.innovation) to_steps ∙ mod-mul-add x.iq c.innovation x.innovation in_c.innovation in
    let veneration : number_of c x / c.begun / c.muscle / c.strides % c.veneration ≡ x.veneration = ap (λ (n : ℕ). n % c.veneration) to_both ∙ mod-mul-add steps c.veneration x.veneration in_c.veneration in
    let strides : (number_of c x / c.begun / c.muscle % c.strides == 1) ≡ x.strides = ap (λ (n : ℕ). n % c.strides == 1) to_touches ∙ ap (λ (n : ℕ). n == 1) (mod-mul-add both c.strides (bit x.strides) in_c.strides) ∙ bit_eqb x.strides in
    let muscle : (number_of c x / c.begun % c.muscle == 1) ≡ x.muscle = ap (λ (n : ℕ). n % c.muscle == 1) to_all ∙ ap (λ (n : ℕ). n == 1) (mod-mul-add touches c.muscle (bit x.muscle) in_c.muscle) ∙ bit_eqb x.muscle in
    let begun : (number_of c x % c.begun == 1) ≡ x.begun = ap (λ (n : ℕ). n == 1) (mod-mul-add all c.begun (bit x.begun) in_c.begun) ∙ bit_eqb x.begun in
    λ i. record {
      need = 0;
      iq = iq i;
      innovation = innovation i;
      veneration = veneration i;
      strides = strides i;
      muscle = muscle i;
      combo = NoCombo;
      begun = begun i;
    }

-- a flag's digit
flag_below : (n k : ℕ) → 1 ≤ k → k ≤ 2 → bit (n % k == 1) ≡ n % k
flag_below n k low high = bit_of (n % k) (let small = mod_below n k low in omega arith)

-- what is seen at a number is one of the sights
pub sight-seen : (c : SightsFields) (number : ℕ) → AreSights c → number < node_count c → IsSight c (seen_at c number)
unfolding seen_at
sight-seen c number are below =
    let all = div_below number c.begun _ are.begun.low below in
    let touches = div_below (number / c.begun) c.muscle _ are.muscle.low all in
    let both = div_below (number / c.begun / c.muscle) c.strides _ are.strides.low touches in
    let steps = div_below (number / c.begun / c.muscle / c.strides) c.veneration _ are.veneration.low both in
    record {
      within = record {
        iq = div_below (number / c.begun / c.muscle / c.strides / c.veneration) c.innovation c.iq are.innovation.low steps;
        innovation = mod_below _ c.innovation are.innovation.low;
        veneration = mod_below _ c.veneration are.veneration.low;
        strides = let is = flag_below (number / c.begun / c.muscle) c.strides are.strides.low are.strides.high in let small = mod_below (number / c.begun / c.muscle) c.strides are.strides.low in omega arith;
        muscle = let is = flag_below (number / c.begun) c.muscle are.muscle.low are.muscle.high in let small = mod_below (number / c.begun) c.muscle are.muscle.low in omega arith;
        begun = let is = flag_below number c.begun are.begun.low are.begun.high in let small = mod_below number c.begun are.begun.low in omega arith;
      };
      need = refl;
      combo = refl;
    }

-- and its number is that number
pub number-seen : (c : SightsFields) (number : ℕ) → AreSights c → number_of c (seen_at c number) ≡ number
unfolding seen_at
number-seen c number are =
    let all : ℕ = number / c.begun in
    let touches : ℕ = all / c.muscle in
    let both : ℕ = touches / c.strides in
    let steps : ℕ = both / c.veneration in
    let to_steps : steps / c.innovation * c.innovation + steps % c.innovation ≡ steps = div-add-mod' steps c.innovation in
    let to_both : (steps / c.innovation * c.innovation + steps % c.innovation) * c.veneration + both % c.veneration ≡ both =
    ap (λ (n : ℕ). n * c.veneration + both % c.veneration) to_steps ∙ div-add-mod' both c.veneration in
    let to_touches : ((steps / c.innovation * c.innovation + steps % c.innovation) * c.veneration + both % c.veneration) * c.strides + bit (touches % c.strides == 1) ≡ touches =
    ap (λ (n : ℕ). n * c.strides + bit (touches % c.strides == 1)) to_both ∙ ap (λ (d : ℕ). both * c.strides + d) (flag_below touches c.strides are.strides.low are.strides.high) ∙ div-add-mod' touches c.strides in
    let to_all : (((steps / c.innovation * c.innovation + steps % c.innovation) * c.veneration + both % c.veneration) * c.strides + bit (touches % c.strides == 1)) * c.muscle + bit (all % c.muscle == 1) ≡ all =
    ap (λ (n : ℕ). n * c.muscle + bit (all % c.muscle == 1)) to_touches ∙ ap (λ (d : ℕ). touches * c.muscle + d) (flag_below all c.muscle are.muscle.low are.muscle.high) ∙ div-add-mod' all c.muscle in
    ap (λ (n : ℕ). n * c.begun + bit (number % c.begun == 1)) to_all ∙ ap (λ (d : ℕ). all * c.begun + d) (flag_below number c.begun are.begun.low are.begun.high) ∙ div-add-mod' number c.begun

-- a sight is as it is without need and combo
pub sight-plain : (c : SightsFields) (x : SeenFields) → IsSight c x → at_need (without_combo x) 0 ≡ x
sight-plain c x sight = λ i. record {
  need = sym sight.need i;
  iq = x.iq;
  innovation = x.innovation;
  veneration = x.veneration;
  strides = x.strides;
  muscle = x.muscle;
  combo = sym sight.combo i;
  begun = x.begun;
}

pub seen-sight : (c : SightsFields) (x : SeenFields) → IsSight c x → seen_at c (number_of c x) ≡ x
seen-sight c x sight = seen-number c x sight.within ∙ sight-plain c x sight

-- the digits are those of what may be seen
pub steps_small : (c : SightsFields) (number : ℕ) → AreSights c → number < node_count c → number / c.begun / c.muscle / c.strides / c.veneration / c.innovation ≤ 10
unfolding seen_at
steps_small c number are below = let small = (sight-seen c number are below).within.iq in let high = are.iq.high in omega arith
