use Rattle.std.proofs.Common.{arith}
use Rattle.front_check.proofs.ActionWords.{no-number, high-number, found-action}
use Rattle.front_check.proofs.naming.read_action.Goals as goal

pub returns-in-None : goal.returns-in-None
returns-in-None c = λ action is. no-number c.args.word.now action c.in-None.ensures is

pub returns-then-number-from : goal.returns-then-number-from
returns-then-number-from c = λ action is. high-number c.args.word.now action c.in-Some.number c.in-Some.ensures (omega arith) is

pub returns : goal.returns
returns c = found-action c.args.word.now c.in-Some.number c.from_number.result c.in-Some.ensures (omega arith) c.from_number.ensures
