-- What a call of a source or a sink does to its counts.
use Rattle.std.specs.Prelude.{ℕ, ◌≡◌, ◌≤◌, ◌+◌, ◌-◌, ◌^◌, min, Result, Ok, Err}

-- the end of a 64-bit count
abbrev pub most_count : ℕ
most_count = 2 ^ 64 - 1

-- one more, up to the end of the count
abbrev pub next_count : ℕ → ℕ
next_count n = min (n + 1) most_count

-- the count is greater than before, or stands at its end
abbrev pub Rose : ℕ → ℕ → Type 0
Rose before now = next_count before ≤ now

-- a successful read is counted, and a failed one isn't
abbrev pub CountsRead : {T E : Type 0} → ℕ → ℕ → Result T E → Type 0
CountsRead before now (Ok _) = now ≡ next_count before
CountsRead before now (Err _) = now ≡ before

-- a failure is counted, and a success isn't
abbrev pub CountsFault : {T E : Type 0} → ℕ → ℕ → Result T E → Type 0
CountsFault before now (Ok _) = now ≡ before
CountsFault before now (Err _) = now ≡ next_count before
