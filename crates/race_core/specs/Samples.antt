-- Two small truths, for tests.
use Rattle.std.specs.Prelude.{ℕ, zero, suc, Bool, true, false, cond, nat_lt}
use Rattle.std.proofs.Common.{arith}
use Rattle.race_core.specs.declared.entry.Entry.{Entry}
use Rattle.race_core.specs.declared.entry.Entry.TheVariants.{NoList, Best}
use Rattle.race_core.specs.Codes.{Fits32}

-- three indices
abbrev pub three_entry : ℕ → Entry
three_entry zero = NoList
three_entry (suc zero) = Best 0
three_entry (suc (suc index)) = Best 5

pub three_fits : (index : ℕ) → Fits32 (three_entry index)
three_fits zero = tt
three_fits (suc zero) = omega arith
three_fits (suc (suc index)) = omega arith

-- a first row of 1100 indices, from which nothing more is gained, and others with no list
abbrev pub row_entry : ℕ → Entry
row_entry index = cond (nat_lt index 1100) (Best 0) NoList

one_fits : (first : Bool) → Fits32 (cond first (Best 0) NoList)
one_fits true = omega arith
one_fits false = tt

pub row_fits : (index : ℕ) → Fits32 (row_entry index)
row_fits index = one_fits (nat_lt index 1100)
