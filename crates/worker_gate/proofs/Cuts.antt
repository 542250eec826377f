-- The ranges are a partition of the places below the length.
use Rattle.std.proofs.Common.{◌≡◌, ℕ, ◌+◌, ◌*◌, ◌<◌, ◌≤◌, zero, suc, arith, ◌⊎◌, inl, inr, subst}
use Rattle.std.proofs.Math.Nat.{mul-div_cancel_left, div-mul-le_self, mul-le-mul_right}
use Rattle.std.proofs.lemmas.Nat.{le-div}
use Rattle.std.proofs.lemmas.Bool.{cases_lt}
use Rattle.worker_gate.specs.Cut.{cut, IsInRange, CutsOnce}

pub cut-whole : (len workers : ℕ) → 0 < workers → cut len workers workers ≡ len
cut-whole len workers some = mul-div_cancel_left len some

cut-zero : (len workers : ℕ) → 0 < workers → cut len workers 0 ≡ 0
cut-zero len workers some = grind arith

cut-rises : (len workers j k : ℕ) → 0 < workers → j ≤ k → cut len workers j ≤ cut len workers k
cut-rises len workers j k some le =
    let whole : cut len workers j * workers ≤ j * len = div-mul-le_self (j * len) workers in
    let more : j * len ≤ k * len = mul-le-mul_right len le in
    le-div (cut len workers j) (k * len) workers some (omega arith)

-- each place before the end of the range before k is in a range before k
holds : (len workers i k : ℕ) → 0 < workers → i < cut len workers k → (j : ℕ) × (j < k) × IsInRange len workers j i
holds len workers i zero some lt = let none = cut-zero len workers some in absurd (omega arith)
holds len workers i (suc k) some lt = go (cases_lt i (cut len workers k)) (holds len workers i k some)
  where
    go : (i < cut len workers k) ⊎ (cut len workers k ≤ i) → (i < cut len workers k → (j : ℕ) × (j < k) × IsInRange len workers j i)
        → (j : ℕ) × (j < suc k) × IsInRange len workers j i
    go (inl below) rest = let r = rest below in (r.0, omega arith, r.2)
    go (inr above) rest = (k, omega arith, (above, let same : suc k ≡ k + 1 = omega arith in subst (λ m. i < cut len workers m) same lt))

-- a place in the range of k is in no earlier range
not_before : (len workers j k i : ℕ) → 0 < workers → IsInRange len workers j i → IsInRange len workers k i → k ≤ j
not_before len workers j k i some in_j in_k = go (cases_lt j k)
  where
    go : (j < k) ⊎ (k ≤ j) → k ≤ j
    go (inl before) = let rises = cut-rises len workers (j + 1) k some (omega arith) in absurd (omega (arith, in_j.1, in_k.0))
    go (inr fine) = fine

pub cuts_once : (len workers : ℕ) → 0 < workers → CutsOnce len workers
cuts_once len workers some = record {
  first = cut-zero len workers some;
  last = cut-whole len workers some;
  ordered = λ k. cut-rises len workers k (k + 1) some (omega arith);
  covered = λ i lt. holds len workers i workers some (let whole = cut-whole len workers some in omega arith);
  once = λ j k i in_j in_k.
      let low = not_before len workers j k i some in_j in_k in
      let high = not_before len workers k j i some in_k in_j in
      omega arith;
}
