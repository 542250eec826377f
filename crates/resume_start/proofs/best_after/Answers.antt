use Rattle.resume_start.proofs.Apart.{not-both}
use Rattle.resume_start.proofs.best_after.Goals as goal

pub unreachable-requires : goal.unreachable-requires
unreachable-requires g c = not-both c.args.g.now c.args.done.now c.in-Err.field-0 c.in-Err.ensures.unfit c.requires.underway
