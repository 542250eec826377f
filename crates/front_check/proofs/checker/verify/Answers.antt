use Rattle.std.proofs.Common.{subst}
use Rattle.craft_settings.specs.Ranges.{AreSettings}
use Rattle.front_check.proofs.Answering.{only-macro, only-line, best-macro}
use Rattle.front_check.proofs.checker.verify.Goals as goal

pub returns-clause-certificate : goal.returns-clause-certificate
returns-clause-certificate c = only-macro c.args.g.now c.args.bytes.now _ c.verify_by.ensures

pub returns-clause-fault : goal.returns-clause-fault
returns-clause-fault c = only-line c.args.g.now c.args.bytes.now _ c.verify_by.ensures

pub returns-clause-best : goal.returns-clause-best
returns-clause-best c = best-macro c.args.g.now c.args.bytes.now _ (subst AreSettings c.g.view_is c.g.invariant) c.verify_by.ensures
