use Rattle.std.proofs.Common.{◌≡◌, suc, ◌+◌, arith}
use Rattle.prefix_fronts.proofs.Dominated.{same-child}
use Rattle.prefix_fronts.proofs.child_dominated_law.Goals as goal

pub returns : goal.returns
returns c g s k p q action is_open h go =
    let more : k + 1 ≡ suc k = omega arith in
    rw more (same-child g s k p q action is_open h go)
