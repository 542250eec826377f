use Rattle.std.proofs.Common.{◌<◌, ◌+◌, ◌-◌, ◌/◌, arith}
use Rattle.macro_order.specs.Order.{NothingCompletes}
use Rattle.stat_sweep.specs.Halving.{IsTried}
use Rattle.stat_sweep.proofs.Enough.{enough-something}
use Rattle.stat_sweep.proofs.Halves.{lower_part, upper_part, range-swept, room-next, room-wide, suffices-next}
use Rattle.stat_sweep.proofs.halving.halve.Goals as goal

pub next_base-base-requires-clause-room : goal.next_base-base-requires-clause-room
next_base-base-requires-clause-room g c =
    let r = c.loop-range.range in
    let wide : 1 < r.high - r.low = c.loop-range-test.true in
    let enough = room-wide _ (r.high - r.low) c.loop-range.room c.loop-range.invariant.calls wide c.loop-range.invariant.room in
    omega (arith, enough)

pub unreachable-requires : goal.unreachable-requires
unreachable-requires g c =
    let nothing : NothingCompletes c.args.g.now = rw c.in_default.is at c.in_ok-tried.ensures.best in
    enough-something c.args.g.now c.loop-range.range.high c.loop-range.invariant.range.enough nothing

pub loop-range-preserved-then-tried : goal.loop-range-preserved-then-tried
loop-range-preserved-then-tried g c =
    let r = c.loop-range.range in
    let tried = c.in-Some.tried in
    let base = c.next_base-base.result in
    let wide : 1 < r.high - r.low = c.loop-range-test.true in
    let is : IsTried c.args.g.now base tried = rw c.in-Some.is at c.in_ok-tried.ensures.best in
    record {
      range = lower_part c.args.g.now r base tried c.loop-range.invariant.range c.next_base-base.ensures.low c.next_base-base.ensures.high is c.if-tried.true;
      calls = suffices-next _ _ (r.high - r.low) (base - r.low) c.loop-range.room c.loop-range.invariant.calls wide c.best_at.ensures.calls c.loop-range.invariant.room (omega (arith, c.next_base-base.ensures.near));
      room = room-next _ _ (r.high - r.low) c.loop-range.room c.loop-range.invariant.calls wide c.best_at.ensures.calls c.loop-range.invariant.room;
      few = omega (arith, c.loop-range.invariant.few);
      ready = c.best_at.ensures.ready;
    }

pub loop-range-preserved-else-tried : goal.loop-range-preserved-else-tried
loop-range-preserved-else-tried g c =
    let r = c.loop-range.range in
    let tried = c.in-Some.tried in
    let base = c.next_base-base.result in
    let wide : 1 < r.high - r.low = c.loop-range-test.true in
    let is : IsTried c.args.g.now base tried = rw c.in-Some.is at c.in_ok-tried.ensures.best in
    record {
      range = upper_part c.args.g.now r base tried c.loop-range.invariant.range c.next_base-base.ensures.low c.next_base-base.ensures.high is c.if-tried.false;
      calls = suffices-next _ _ (r.high - r.low) (r.high - base) c.loop-range.room c.loop-range.invariant.calls wide c.best_at.ensures.calls c.loop-range.invariant.room (omega (arith, c.next_base-base.ensures.far));
      room = room-next _ _ (r.high - r.low) c.loop-range.room c.loop-range.invariant.calls wide c.best_at.ensures.calls c.loop-range.invariant.room;
      few = omega (arith, c.loop-range.invariant.few);
      ready = c.best_at.ensures.ready;
    }

pub loop-range-preserved : goal.loop-range-preserved
loop-range-preserved g c =
    let r = c.loop-range.range in
    let tried = c.in-Some.tried in
    let base = c.next_base-base.result in
    let wide : 1 < r.high - r.low = c.loop-range-test.true in
    let is : IsTried c.args.g.now base tried = rw c.in-Some.is at c.in_ok-tried.ensures.best in
    record {
      range = upper_part c.args.g.now r base tried c.loop-range.invariant.range c.next_base-base.ensures.low c.next_base-base.ensures.high is c.if-tried.false;
      calls = suffices-next _ _ (r.high - r.low) (r.high - base) c.loop-range.room c.loop-range.invariant.calls wide c.best_at.ensures.calls c.loop-range.invariant.room (omega (arith, c.next_base-base.ensures.far));
      room = room-next _ _ (r.high - r.low) c.loop-range.room c.loop-range.invariant.calls wide c.best_at.ensures.calls c.loop-range.invariant.room;
      few = omega (arith, c.loop-range.invariant.few);
      ready = c.best_at.ensures.ready;
    }

pub returns-clause-swept : goal.returns-clause-swept
returns-clause-swept g c = range-swept c.args.g.now c.loop-range.range c.loop-range.invariant.range (omega arith)
