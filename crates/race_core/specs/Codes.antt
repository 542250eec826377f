-- How an entry and a quality are written as a word.
use Rattle.std.specs.Prelude.{ℕ, zero, suc, ◌+◌, ◌^◌, ◌<◌, Option, Some, None}
use Rattle.race_core.specs.declared.entry.Entry.{Entry}
use Rattle.race_core.specs.declared.entry.Entry.TheVariants.{NoList, Best}

-- an entry whose value has 32 bits
abbrev pub Fits32 : Entry → Type 0
Fits32 NoList = Unit {0}
Fits32 (Best v) = v < 2 ^ 32

-- the word of an entry; the empty word is 0
abbrev pub code : Entry → ℕ
code NoList = 1
code (Best v) = 2 + v

-- the quality that a mark says: the mark is 0, or 1 and a quality
abbrev pub quality : ℕ → Option ℕ
quality zero = None
quality (suc q) = Some q
