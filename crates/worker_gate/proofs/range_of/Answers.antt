use Rattle.std.proofs.Common.{◌≡◌, ◌+◌, ◌∙◌, ap₂, arith}
use Rattle.worker_gate.specs.Cut.{cut}
use Rattle.worker_gate.proofs.Cuts.{cut-whole}
use Rattle.worker_gate.proofs.range_of.Goals as goal

pub returns-clause-last : goal.returns-clause-last
returns-clause-last c e =
    let place : c.from-place.result + 1 ≡ c.args.workers = omega (arith, c.from-place.ensures) in
    ap₂ (λ m n. cut c.args.len m n) c.from-parts.ensures place ∙ cut-whole c.args.len c.args.workers (omega arith)
