-- The larger of an entry and a raised one, where 0 stands for nothing and v + 1 for v.
use Rattle.std.specs.Prelude.{ℕ, ◌+◌, ◌==◌, max, if◌then◌else◌}

-- what becomes of the entry d, where s stands at its place in the source
abbrev pub max_plus_of : ℕ → ℕ → ℕ → ℕ
max_plus_of d s add = if s == 0 then d else max d (s + add)
