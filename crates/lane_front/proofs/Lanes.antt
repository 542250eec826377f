-- Lanes of a load, as computed from their places.
use Rattle.std.proofs.Common.{◌≡◌, ℕ, ◌+◌, ◌-◌, ◌<◌, ◌≤◌, ◌^◌, ◌%◌, ◌&&◌, Bool, true, false, not, cond, List, length, get_or, map, refl, sym, ap, ◌∙◌, leb, ltb, eqb, arith, max, replicate}
use Rattle.plain_lemmas.proofs.Tests.{not_true, not_false}
use Rattle.std.specs.List.{range_with_len, prefix_len}
use lib.Lanes.{mask_l, zip2, top, chunk, sel_l}
use lib.Bits.{bit_and}
use Rattle.std.proofs.lemmas.Simd.{pick_l-range_with_len, mask_l-mod, first_set_mask_l}
use Rattle.std.proofs.lemmas.List.Sums.{prefix_len-le-length, prefix_len_passes, prefix_len_stops}
use Rattle.std.proofs.lemmas.List.FromFn.{get_or-range_with_len, get_or-map-range_with_len}
use Rattle.std.proofs.lemmas.Bool.Decides.{nat_tests}
use lib.Count.{count_trailing_zeros}
use Rattle.lane_front.specs.Cover.{Covers, NoneCovers, is_covering}
use Rattle.lane_front.specs.MaxPlus.{max_plus_of}

abbrev pub ones : Bool → ℕ
ones b = cond b 4294967295 0

lane : (x y z : Bool) → top 31 (bit_and (bit_and (ones x) (ones y)) (ones z)) ≡ (x && y && z)
lane true true true = refl
lane true true false = refl
lane true false true = refl
lane true false false = refl
lane false true true = refl
lane false true false = refl
lane false false true = refl
lane false false false = refl

abbrev pub hit_mask : ℕ → ℕ → ℕ → List ℕ → List ℕ → List ℕ → ℕ
hit_mask a b c u v w = mask_l (map (top 31) (zip2 bit_and (zip2 bit_and (zip2 (λ x y. ones (leb x y)) (replicate 8 a) u)
    (zip2 (λ x y. ones (leb x y)) (replicate 8 b) v)) (zip2 (λ x y. ones (leb x y)) (replicate 8 c) w))) % 2 ^ 64

pub hits : (cp dur quality c : List ℕ) (i : ℕ) → i + 8 ≤ length cp → i + 8 ≤ length dur → i + 8 ≤ length quality
    → hit_mask (get_or c 0 0) (get_or c 1 0) (get_or c 2 0) (chunk i 8 cp) (chunk i 8 dur) (chunk i 8 quality)
    ≡ mask_l (map (is_covering cp dur quality c) (range_with_len i 8))
hits cp dur quality c i r1 r2 r3 =
    let least = λ (k : ℕ). get_or c k 0 in
    let e1 = sym (pick_l-range_with_len 0 cp i 8 r1) in
    let e2 = sym (pick_l-range_with_len 0 dur i 8 r2) in
    let e3 = sym (pick_l-range_with_len 0 quality i 8 r3) in
    (λ j. hit_mask (least 0) (least 1) (least 2) (e1 j) (e2 j) (e3 j))
    ∙ (λ j. mask_l (map (λ k. lane (leb (least 0) (get_or cp k 0)) (leb (least 1) (get_or dur k 0)) (leb (least 2) (get_or quality k 0)) j)
    (range_with_len i 8)) % 2 ^ 64)
    ∙ mask_l-mod (map (is_covering cp dur quality c) (range_with_len i 8)) 64 (omega arith)

-- what the mask of eight places says of the places before the first that is set
pub record Run (cp dur quality : List ℕ) (c : List ℕ) (i r : ℕ) : Type 0 where
  pub most : r ≤ 8
  pub before : NoneCovers cp dur quality c i (i + r)
  pub found : r < 8 → Covers cp dur quality c (i + r)

covers_of : (cp dur quality c : List ℕ) (k : ℕ) → is_covering cp dur quality c k ≡ true → Covers cp dur quality c k
covers_of cp dur quality c k h = grind (arith, nat_tests)

not_covers : (cp dur quality c : List ℕ) (k : ℕ) → is_covering cp dur quality c k ≡ false → Covers cp dur quality c k → ⊥
not_covers cp dur quality c k h covers = grind (arith, nat_tests)

pub run_of : (cp dur quality c : List ℕ) (i hits r : ℕ)
    → hits ≡ mask_l (map (is_covering cp dur quality c) (range_with_len i 8))
    → r ≡ cond (eqb hits 0) 8 (count_trailing_zeros 64 hits) → Run cp dur quality c i r
run_of cp dur quality c i hits r is counted =
    let p = λ (k : ℕ). is_covering cp dur quality c k in
    let vs = range_with_len i 8 in
    let len : r ≡ prefix_len (λ k. not (p k)) vs =
    counted ∙ ap (λ h. cond (eqb h 0) 8 (count_trailing_zeros 64 h)) is ∙ first_set_mask_l p vs 8 refl (omega arith) in
    let at : (j : ℕ) → j < 8 → get_or vs j 0 ≡ i + j = λ j lt. get_or-range_with_len i 8 j 0 lt in
    record {
      most = omega (arith, len, prefix_len-le-length (λ k. not (p k)) vs);
      before = λ k le lt.
          let small : k - i < prefix_len (λ k. not (p k)) vs = omega (arith, len) in
          let below : k - i < 8 = omega (arith, prefix_len-le-length (λ k. not (p k)) vs) in
          let here : get_or vs (k - i) 0 ≡ k = at (k - i) below ∙ omega arith in
          not_covers cp dur quality c k (not_true (p k) (ap (λ m. not (p m)) (sym here) ∙ prefix_len_passes (λ k. not (p k)) vs (k - i) 0 small));
      found = λ lt.
          let small : prefix_len (λ k. not (p k)) vs < 8 = omega (arith, len) in
          let here : get_or vs (prefix_len (λ k. not (p k)) vs) 0 ≡ i + r = at (prefix_len (λ k. not (p k)) vs) small ∙ ap (λ m. i + m) (sym len) in
          covers_of cp dur quality c (i + r) (not_false (p (i + r)) (ap (λ m. not (p m)) (sym here) ∙ prefix_len_stops (λ k. not (p k)) vs 0 small));
    }

-- ---- max plus

abbrev pub lanes_max : ℕ → List ℕ → List ℕ → List ℕ
lanes_max add src dst = sel_l (map (top 31) (zip2 (λ x y. ones (eqb x y)) src (replicate 8 0))) dst
    (sel_l (map (top 31) (zip2 (λ x y. ones (ltb x y)) dst (zip2 (λ x y. x + y) src (replicate 8 add)))) (zip2 (λ x y. x + y) src (replicate 8 add)) dst)

abbrev pub lane_max : ℕ → ℕ → ℕ → ℕ
lane_max add s d = cond (top 31 (ones (eqb s 0))) d (cond (top 31 (ones (ltb d (s + add)))) (s + add) d)

pub lane_max_is : (add s d : ℕ) → lane_max add s d ≡ max_plus_of d s add
lane_max_is add s d = go (eqb s 0) (ltb d (s + add)) refl
  where
    go : (x y : Bool) → ltb d (s + add) ≡ y → cond (top 31 (ones x)) d (cond (top 31 (ones y)) (s + add) d) ≡ cond x d (max d (s + add))
    go true y e = refl
    go false true e = grind (arith, nat_tests)
    go false false e = grind (arith, nat_tests)

pub max_at : (dst src : List ℕ) (add i k : ℕ) → i + 8 ≤ length src → i + 8 ≤ length dst → i ≤ k → k < i + 8
    → get_or (lanes_max add (chunk i 8 src) (chunk i 8 dst)) (k - i) 0 ≡ max_plus_of (get_or dst k 0) (get_or src k 0) add
max_at dst src add i k r1 r2 le lt =
    let e1 = sym (pick_l-range_with_len 0 src i 8 r1) in
    let e2 = sym (pick_l-range_with_len 0 dst i 8 r2) in
    let small : k - i < 8 = omega arith in
    let here : i + (k - i) ≡ k = omega arith in
    (λ j. get_or (lanes_max add (e1 j) (e2 j)) (k - i) 0)
    ∙ get_or-map-range_with_len (λ m. lane_max add (get_or src m 0) (get_or dst m 0)) i 8 (k - i) k 0 small here
    ∙ lane_max_is add (get_or src k 0) (get_or dst k 0)

pub length-lanes_max : (dst src : List ℕ) (add i : ℕ) → i + 8 ≤ length src → i + 8 ≤ length dst → length (lanes_max add (chunk i 8 src) (chunk i 8 dst)) ≡ 8
length-lanes_max dst src add i r1 r2 =
    let e1 = sym (pick_l-range_with_len 0 src i 8 r1) in
    let e2 = sym (pick_l-range_with_len 0 dst i 8 r2) in
    λ j. length (lanes_max add (e1 j) (e2 j))

pub not_zero : (h x y : ℕ) → (h ≡ 0 → ⊥) → y ≡ cond (eqb h 0) x y
not_zero h x y ne = grind (arith, nat_tests)
