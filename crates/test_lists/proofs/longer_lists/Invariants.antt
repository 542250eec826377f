use Rattle.std.proofs.Common.{◌+◌, ℕ, All}
use Rattle.craft_state.specs.Craft.{StateFields}
use Rattle.test_lists.specs.Lists.{IsListed}
use Rattle.test_lists.proofs.longer_lists.Given as goal

abbrev pub invariant-loop-listed : goal.invariant-loop-listed
invariant-loop-listed l = (from : StateFields) (n : ℕ) →
    All (IsListed l.g from n) l.lists → All (IsListed l.g from (n + 1)) l.longer.items
