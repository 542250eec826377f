-- Words of sixteen bits: 0 stands for nothing, and v + 1 for v.
use Rattle.std.specs.Prelude.{ℕ, ◌+◌, ◌==◌, min, if◌then◌else◌}

-- the greatest word, at which words are cut
abbrev pub greatest_word : ℕ
greatest_word = 65535

-- how many words a vector holds
abbrev pub lanes : ℕ
lanes = 16

-- the word after a gain
abbrev pub raised : ℕ → ℕ → ℕ
raised gain word = if word == 0 then 0 else min greatest_word (word + gain)
