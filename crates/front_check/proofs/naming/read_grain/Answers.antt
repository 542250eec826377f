use Rattle.std.proofs.Common.{arith}
use Rattle.front_check.proofs.ActionWords.{more-grains}
use Rattle.front_check.proofs.naming.read_grain.Goals as goal

pub loop-grain-preserved : goal.loop-grain-preserved
loop-grain-preserved c = more-grains c.args.line.now c.loop-grain.grain c.in_ok-named.named c.loop-grain.invariant c.in_ok-named.ensures c.if-named.false

pub returns : goal.returns
returns c = λ grain range is. c.loop-grain.invariant grain range.low (omega (arith, range.high)) is
