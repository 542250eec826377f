use Rattle.std.proofs.Common.{sym}
use Rattle.front_check.proofs.RowByRow.{ahead-inside, pushed-next, pushed-stop, pushed-last, rest-done}
use Rattle.front_check.proofs.ahead.look_ahead.Goals as goal

pub loop-place-preserved : goal.loop-place-preserved
loop-place-preserved c = record {
  inside = ahead-inside c.args.text.now c.loop-place.from c.in-Some.end c.loop-place.invariant.inside (sym c.in-Some.ensures);
  going = pushed-next c.args.g.now c.args.kept.now c.args.text.now c.loop-place.place c.loop-place.from c.in-Some.end c.index-kept-place.result c.loop-place.next.items _ _ c.loop-place-test.true c.index-kept-place.is (sym c.in-Some.ensures) c.loop-place.invariant.going c.in_ok-fits-in-Some.ensures c.if-not-fits.false;
}

pub returns-then-not-fits : goal.returns-then-not-fits
returns-then-not-fits c =
    pushed-stop c.args.g.now c.args.kept.now c.args.text.now c.loop-place.place c.loop-place.from c.in-Some.end c.index-kept-place.result c.loop-place.next.items _ _ c.loop-place-test.true c.index-kept-place.is (sym c.in-Some.ensures) c.loop-place.invariant.going c.in_ok-fits-in-Some.ensures c.if-not-fits.true

pub returns : goal.returns
returns c = rest-done c.args.g.now c.args.kept.now c.args.text.now c.loop-place.place c.loop-place.from c.loop-place.next.items c.loop-place-test.false c.loop-place.invariant.going

pub returns-in-None : goal.returns-in-None
returns-in-None c =
    pushed-last c.args.g.now c.args.kept.now c.args.text.now c.loop-place.place c.loop-place.from c.index-kept-place.result c.loop-place.next.items _ _ c.loop-place-test.true c.index-kept-place.is (sym c.in-None.ensures) c.loop-place.invariant.going c.in_ok-_last-in-None.ensures
