-- The parts so far are empty.
use Rattle.std.proofs.Common.{◌≡◌, ℕ, [], length, get_or}
use Rattle.pareto_front.specs.Lists.{items_of}
use Rattle.pareto_front.proofs.parts.empty_parts.Given as goal

abbrev pub invariant-loop-part : goal.invariant-loop-part
invariant-loop-part l = (length l.parts.items ≡ l._part) × ((g : ℕ) → get_or (items_of l.parts.items) g [] ≡ [])
