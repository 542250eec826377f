use Rattle.std.proofs.Common.{◌+◌, ℕ, All}
use Rattle.craft_state.specs.Craft.{StateFields}
use Rattle.test_lists.specs.Lists.{IsListed}
use Rattle.test_lists.proofs.push_longer.Given as goal

abbrev pub invariant-loop-action : goal.invariant-loop-action
invariant-loop-action l = (from : StateFields) (n : ℕ) → IsListed l.g from n l.listed →
    All (IsListed l.g from (n + 1)) l.fn.longer.items → All (IsListed l.g from (n + 1)) l.longer.items
