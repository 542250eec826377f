use Rattle.std.proofs.Common.{sym}
use Rattle.front_check.proofs.ActionWords.{end-none}
use Rattle.front_check.proofs.naming.word_end.Goals as goal

pub returns-in-None-clause-value : goal.returns-in-None-clause-value
returns-in-None-clause-value c = end-none c.args.bytes.now (sym c.in-None.ensures)
