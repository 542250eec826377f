-- How the places below a length are cut among workers.
use Rattle.std.specs.Prelude.{◌≡◌, ℕ, ◌+◌, ◌*◌, ◌/◌, ◌<◌, ◌≤◌}

-- where the range of worker k begins, and that of worker k - 1 ends
abbrev pub cut : ℕ → ℕ → ℕ → ℕ
cut len workers k = k * len / workers

-- place i is in the range of worker k
abbrev pub IsInRange : ℕ → ℕ → ℕ → ℕ → Type 0
IsInRange len workers k i = (cut len workers k ≤ i) × (i < cut len workers (k + 1))

-- the ranges begin at 0, end at the length, and hold each place in between once
pub record CutsOnce (len workers : ℕ) : Type 0 where
  pub first : cut len workers 0 ≡ 0
  pub last : cut len workers workers ≡ len
  pub ordered : (k : ℕ) → cut len workers k ≤ cut len workers (k + 1)
  pub covered : (i : ℕ) → i < len → (k : ℕ) × (k < workers) × IsInRange len workers k i
  pub once : (j k i : ℕ) → IsInRange len workers j i → IsInRange len workers k i → j ≡ k
