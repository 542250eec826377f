use Rattle.front_check.specs.Judging.{claim_of}
use Rattle.certificate_maker.proofs.Rowed.{next-found}
use Rattle.certificate_maker.proofs.levels.write_level.Goals as goal

pub returns-clause-next : goal.returns-clause-next
returns-clause-next g c =
    next-found (claim_of c.args.stage.now.claimed.now) c.args.stage.now.left c.args.stage.now.nodes.now c.in_ok-next.next.items c.in_ok-open.open.items c.deref.result.now c.in_ok-marks.marks.items
    c.in_ok-next.ensures c.in_ok-open.ensures c.deref.ensures.value c.in_ok-marks.ensures.marks
