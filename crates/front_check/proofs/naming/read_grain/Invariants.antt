use Rattle.std.proofs.Common.{◌≡◌, ◌≤◌, ◌<◌, ℕ}
use Rattle.certificate_text.specs.Text.{first_line}
use Rattle.front_check.proofs.naming.read_grain.Given as goal

abbrev pub invariant-loop-grain : goal.invariant-loop-grain
invariant-loop-grain l = (n : ℕ) → 1 ≤ n → n < l.grain → l.line ≡ first_line n → ⊥
