-- The width of a vector.
use Rattle.std.specs.Prelude.{ℕ}

-- how many entries a vector holds
abbrev pub lanes : ℕ
lanes = 8
