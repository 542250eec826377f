use Rattle.std.proofs.Common.{◌≡◌, suc, ◌+◌, ◌-◌, arith}
use Rattle.prefix_fronts.specs.Prefix.{front}
use Rattle.prefix_fronts.proofs.Fronts.{front-first, next_front}
use Rattle.prefix_fronts.proofs.front_law.Goals as goal

pub returns-clause-first : goal.returns-clause-first
returns-clause-first c g s passes n = front-first g s passes n

pub returns-clause-next : goal.returns-clause-next
unfolding front
returns-clause-next c g s target passes n k is_open limits below =
    let more : k + 1 ≡ suc k = omega arith in
    let one : n - k ≡ n - suc k + 1 = omega arith in
    rw (more, one) (next_front g s target passes (n - suc k) k is_open limits)
