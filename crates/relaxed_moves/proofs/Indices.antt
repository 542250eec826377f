-- Different relaxed states have different places.
use Rattle.std.proofs.Common.{ℕ, Bool, true, false, ◌≡◌, ◌≤◌, ◌<◌, ◌+◌, ◌*◌, ◌/◌, ◌%◌, ◌==◌, sym, refl, arith}
use Rattle.plain_lemmas.proofs.Tests.{bit_same, bit_small}
use Rattle.std.proofs.lemmas.Nat.{same_from_place, div_below, mod_below, div-add-mod', mul-le}
use Rattle.relaxed_moves.specs.Columns.{at_bucket}
use Rattle.relaxed_moves.specs.Moves.{RelaxedFields, AreRelaxed}
use Rattle.relaxed_moves.specs.Places.{place_count, bit, effect_number, index_of, first_at, state_at}
use Rattle.relaxed_moves.specs.declared.places.TheConstants.{BUCKET_STATES}

same_fields : (x y : RelaxedFields) → x.bucket ≡ y.bucket → x.iq ≡ y.iq → x.innovation ≡ y.innovation → x.veneration ≡ y.veneration → x.strides ≡ y.strides → x.muscle ≡ y.muscle → x ≡ y
same_fields x y a b c d e f = λ i. record { bucket = a i; iq = b i; innovation = c i; veneration = d i; strides = e i; muscle = f i }

pub index_of-injective : (grain first first' : ℕ) (x y : RelaxedFields) → AreRelaxed x → AreRelaxed y → x.bucket ≤ grain → y.bucket ≤ grain →
    index_of grain first x ≡ index_of grain first' y → (first ≡ first') × (x ≡ y)
index_of-injective grain first first' x y bx by wx wy same =
    let m = same_from_place _ (bit x.muscle) _ (bit y.muscle) 2 (bit_small x.muscle) (bit_small y.muscle) same in
    let s = same_from_place _ (bit x.strides) _ (bit y.strides) 2 (bit_small x.strides) (bit_small y.strides) m.0 in
    let v = same_from_place _ x.veneration _ y.veneration 5 (omega (arith, bx.veneration)) (omega (arith, by.veneration)) s.0 in
    let n = same_from_place _ x.innovation _ y.innovation 5 (omega (arith, bx.innovation)) (omega (arith, by.innovation)) v.0 in
    let q = same_from_place _ x.iq _ y.iq 11 (omega (arith, bx.iq)) (omega (arith, by.iq)) n.0 in
    let b = same_from_place first x.bucket first' y.bucket (grain + 1) (omega arith) (omega arith) q.0 in
    (b.0, same_fields x y b.1 q.1 n.1 v.1 (bit_same _ _ s.1) (bit_same _ _ m.1))

-- the place of a first number and a bucket
pub outer_below : (first bucket grain : ℕ) → first ≤ 1378 → bucket ≤ grain → grain ≤ 64 → first * (grain + 1) + bucket < (first + 1) * (grain + 1)
outer_below first bucket grain h k l = omega arith

pub first_times : (first grain : ℕ) → first ≤ 1378 → grain ≤ 64 → first * (grain + 1) ≤ 89570
first_times first grain h k = mul-le first (grain + 1) 1378 65 h (omega arith)

pub first_below : (place grain : ℕ) → place < 1379 * (grain + 1) → place / (grain + 1) ≤ 1378
first_below place grain h = let below : place / (grain + 1) < 1379 = div_below place (grain + 1) 1379 (omega arith) h in omega arith

pub rebuilt : (place grain : ℕ) → place / (grain + 1) * (grain + 1) + place % (grain + 1) ≡ place
rebuilt place grain = div-add-mod' place (grain + 1)

pub bucket_in : (place grain : ℕ) → place % (grain + 1) ≤ grain
bucket_in place grain = omega (arith, mod_below place (grain + 1) (omega arith))

pub ruleset indices = (outer_below, first_times, first_below, rebuilt, bucket_in)

bit_of : (n : ℕ) → bit (n % 2 == 1) ≡ n % 2
bit_of n = grind arith

pub AreRelaxed-state_at : (grain index : ℕ) → AreRelaxed (state_at grain index)
unfolding state_at
AreRelaxed-state_at grain index = record { iq = omega arith; innovation = omega arith; veneration = omega arith }

pub bucket-state_at : (grain index : ℕ) → (state_at grain index).bucket ≤ grain
unfolding state_at
bucket-state_at grain index = bucket_in (index / 1100) grain

-- a place is that of its own parts
pub index_of-at : (grain index : ℕ) → index_of grain (first_at grain index) (state_at grain index) ≡ index
unfolding state_at
index_of-at grain index =
    omega (arith, rebuilt (index / 1100) grain, bit_of (index % 1100 / 2), bit_of (index % 1100))

-- and parts are those of their place
pub at-index_of : (grain first : ℕ) (x : RelaxedFields) → AreRelaxed x → x.bucket ≤ grain →
    (first ≡ first_at grain (index_of grain first x)) × (x ≡ state_at grain (index_of grain first x))
at-index_of grain first x bounds within =
    index_of-injective grain first (first_at grain (index_of grain first x)) x (state_at grain (index_of grain first x)) bounds
    (AreRelaxed-state_at grain (index_of grain first x)) within (bucket-state_at grain (index_of grain first x)) (sym (index_of-at grain (index_of grain first x)))

-- the buckets of one first number and one set of effects are a column
pub index_of-layers : (grain first : ℕ) (x : RelaxedFields) →
    index_of grain first x ≡ (first * (grain + 1) + x.bucket) * BUCKET_STATES + effect_number x
index_of-layers grain first x = omega arith

pub effect_number-below : (x : RelaxedFields) → AreRelaxed x → effect_number x < BUCKET_STATES
effect_number-below x bounds =
    omega (arith, bounds.iq, bounds.innovation, bounds.veneration, bit_small x.strides, bit_small x.muscle)

-- the places of a column stand at a stride
pub index_of-stride : (grain first bucket : ℕ) (x : RelaxedFields) →
    index_of grain first (at_bucket x 0) + bucket * BUCKET_STATES ≡ index_of grain first (at_bucket x bucket)
index_of-stride grain first bucket x = omega arith

pub relaxed_at : (x : RelaxedFields) (bucket : ℕ) → AreRelaxed x → AreRelaxed (at_bucket x bucket)
relaxed_at x bucket bounds = record { iq = bounds.iq; innovation = bounds.innovation; veneration = bounds.veneration }

-- a place is below the places of the next first number
pub index_of-below : (grain first : ℕ) (x : RelaxedFields) → AreRelaxed x → first ≤ 1378 → grain ≤ 64 → x.bucket ≤ grain →
    index_of grain first x < place_count grain (first + 1)
index_of-below grain first x bounds low small within =
    omega (arith, index_of-layers grain first x, effect_number-below x bounds, outer_below first x.bucket grain low within small)

-- and no table has more places than fit
pub index_of-small : (grain first : ℕ) (x : RelaxedFields) → AreRelaxed x → first ≤ 1378 → grain ≤ 64 → x.bucket ≤ grain →
    index_of grain first x < 98598500
index_of-small grain first x bounds low small within =
    let product : (first + 1) * (grain + 1) ≤ 1379 * 65 = mul-le (first + 1) (grain + 1) 1379 65 (omega (arith, low)) (omega (arith, small)) in
    omega (arith, product, index_of-below grain first x bounds low small within)
