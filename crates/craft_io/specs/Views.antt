-- What contracts see of a source and of a sink, and how bytes move in and out.
use Rattle.std.specs.Prelude.{ℕ, ◌<◌, ◌≤◌, ◌+◌, List, Option, length, take}
use Rattle.std.specs.Io.KnownBytes.{Appends, Consumes, IsAtEnd}

-- of a source: the bytes still to come, where they are told, and how often a read has failed and has succeeded
pub record SourceView : Type 0 where
  pub left : Option (List ℕ)
  pub faults : ℕ
  pub reads : ℕ

-- of a sink: the bytes taken so far, where they are told, and how often a write has failed
pub record SinkView : Type 0 where
  pub taken : Option (List ℕ)
  pub faults : ℕ

-- the source has given these bytes
abbrev pub Gives : List ℕ → SourceView → SourceView → Type 0
Gives bytes before after = Consumes before.left after.left bytes

-- the source has given at most so many bytes
abbrev pub GivesAtMost : ℕ → SourceView → SourceView → Type 0
GivesAtMost most before after = (bytes : List ℕ) × (length bytes ≤ most) × Gives bytes before after

-- the source has given fewer bytes
abbrev pub GivesFewer : ℕ → SourceView → SourceView → Type 0
GivesFewer most before after = (bytes : List ℕ) × (length bytes < most) × Gives bytes before after

-- no byte is still to come
abbrev pub HasEnded : SourceView → Type 0
HasEnded after = IsAtEnd after.left

-- the sink has gained these bytes
abbrev pub Gains : List ℕ → SinkView → SinkView → Type 0
Gains bytes before after = Appends before.taken after.taken bytes

-- the sink has gained a part of these bytes, and not the whole
abbrev pub GainsPart : List ℕ → SinkView → SinkView → Type 0
GainsPart bytes before after = (n : ℕ) × (n < length bytes) × Gains (take n bytes) before after

-- so many reads at most succeeded
pub record ReadsAtMostTimes (times : ℕ) (before after : SourceView) : Type 0 where
  pub later : before.reads ≤ after.reads
  pub most : after.reads ≤ before.reads + times
