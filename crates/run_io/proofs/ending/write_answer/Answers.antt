use Rattle.run_io.proofs.Endings.{kept_write, no_write_fault}
use Rattle.run_io.proofs.ending.write_answer.Goals as goal

pub returns-clause-part : goal.returns-clause-part
returns-clause-part g c is = absurd (no_write_fault c.args.answer.now.status c.requires is)

pub returns-clause-faults : goal.returns-clause-faults
returns-clause-faults g c = kept_write _ _ _ (no_write_fault c.args.answer.now.status c.requires) c.in_default.ensures.faults

pub returns-clause-told : goal.returns-clause-told
returns-clause-told g c is = absurd (no_write_fault c.args.answer.now.status c.requires is)
