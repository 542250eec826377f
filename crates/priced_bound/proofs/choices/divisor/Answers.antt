use Rattle.std.proofs.Common.{◌-◌, ◌∙◌, sym, arith}
use Rattle.priced_bound.specs.declared.choices.TheConstants.{MOST_EFFICIENCY}
use Rattle.priced_bound.proofs.Counting.{none-first, none-more, greatest-found, one-divides}
use Rattle.priced_bound.proofs.choices.divisor.Goals as goal

pub loop-past-init : goal.loop-past-init
loop-past-init c = none-first c.args.g.now

pub loop-past-preserved : goal.loop-past-preserved
loop-past-preserved c =
    none-more c.args.g.now c.loop-past.past (MOST_EFFICIENCY - c.loop-past.past) (omega arith) (omega arith) (sym c.divides_each.ensures ∙ c.if-divides_each.false) c.loop-past.invariant

pub returns-then-divides_each : goal.returns-then-divides_each
returns-then-divides_each c =
    greatest-found c.args.g.now c.loop-past.past (MOST_EFFICIENCY - c.loop-past.past) (omega arith) (omega arith) (sym c.divides_each.ensures ∙ c.if-divides_each.true) c.loop-past.invariant

pub returns : goal.returns
returns c = greatest-found c.args.g.now c.loop-past.past 1 (omega arith) (omega arith) (one-divides c.args.g.now) c.loop-past.invariant
