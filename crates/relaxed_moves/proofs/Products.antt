-- Bounds on the products of the costs, the potential and the buckets.
use Rattle.std.proofs.Common.{ℕ, ◌≤◌, ◌<◌, ◌+◌, ◌-◌, ◌*◌, ◌/◌, arith}
use Rattle.std.proofs.lemmas.Nat.{div-add-mod', mul-le, div_below, mod_below}
use Rattle.std.proofs.Math.Nat.{mul_comm}

pub rho_times : (rho n : ℕ) → rho ≤ 14 → n ≤ 20 → rho * n ≤ 280
rho_times rho n h k = mul-le rho n 14 20 h k

pub sigma_times : (sigma n : ℕ) → sigma ≤ 28 → n ≤ 8 → sigma * n ≤ 224
sigma_times sigma n h k = mul-le sigma n 28 8 h k

pub bucket_times : (b u : ℕ) → b ≤ 64 → u ≤ 100000 → b * u ≤ 6400000
bucket_times b u h k = mul-le b u 64 100000 h k

pub falls : (b u p : ℕ) → 0 < u → (b * u - p) / u ≤ b
falls b u p positive = let below : (b * u - p) / u < b + 1 = div_below (b * u - p) u (b + 1) positive (omega arith) in omega arith

pub ruleset products = (rho_times, sigma_times, bucket_times, falls)

-- so many units as the grain says cover the progress
pub unit_covers : (progress grain : ℕ) → 1 ≤ grain → progress ≤ (progress + grain - 1) / grain * grain
unit_covers progress grain low = omega (arith, div-add-mod' (progress + grain - 1) grain, mod_below (progress + grain - 1) grain low)

-- all progress is in at most so many buckets as the grain says
pub bucket_below : (progress r grain u : ℕ) → 0 < u → r ≤ progress → progress ≤ u * grain → r / u ≤ grain
bucket_below progress r grain u positive left covers =
    let turned = mul_comm u grain in
    let below : r / u < grain + 1 = div_below r u (grain + 1) positive (omega arith) in
    omega arith

pub ruleset buckets = (unit_covers, bucket_below)
