use Rattle.std.proofs.Common.{◌∙◌, sym, refl, arith}
use Rattle.plain_lemmas.proofs.Tests.{clash}
use Rattle.front_check.specs.Judging.{claim_of}
use Rattle.front_check.proofs.RowByRow.{ahead-inside}
use Rattle.front_check.proofs.Leading.{row-good, row-broken, row-missing, rows-start, rows-done}
use Rattle.front_check.proofs.level.judge_rows.Goals as goal

pub loop-place-init : goal.loop-place-init
loop-place-init g c = record { inside = omega arith; bounds = refl; leads = rows-start c.args.claimed.now.g.now (claim_of c.args.claimed.now) c.args.level.now.number c.args.level.now.kept.now c.args.next.now c.args.text.now }

pub loop-place-preserved : goal.loop-place-preserved
loop-place-preserved g c = record {
  inside = ahead-inside c.args.text.now c.loop-place.from c.in-Some.end c.loop-place.invariant.inside (sym c.in-Some.ensures);
  bounds = c.obeys.ensures.still ∙ c.loop-place.invariant.bounds;
  leads = row-good c.args.claimed.now.g.now (claim_of c.args.claimed.now) c.args.level.now.number c.args.level.now.kept.now c.args.next.now c.args.text.now c.loop-place.place c.loop-place.from c.in-Some.end _ c.loop-place-test.true c.index-kept-place.is (sym c.in-Some.ensures) c.loop-place.invariant.leads (c.in_ok-good-in-Some.ensures.value.0 c.if-not-good.false);
}

pub returns-then-not-good-clause-value : goal.returns-then-not-good-clause-value
returns-then-not-good-clause-value g c = row-broken c.args.claimed.now.g.now (claim_of c.args.claimed.now) c.args.level.now.number c.args.level.now.kept.now c.args.next.now c.args.text.now c.loop-place.place c.loop-place.from c.in-Some.end _ c.loop-place-test.true c.index-kept-place.is (sym c.in-Some.ensures) c.loop-place.invariant.leads
    (λ r. clash (c.in_ok-good-in-Some.ensures.value.1 r) c.if-not-good.true)

pub returns-clause-value : goal.returns-clause-value
returns-clause-value g c = (c.loop-place.invariant.inside, rows-done c.args.claimed.now.g.now (claim_of c.args.claimed.now) c.args.level.now.number c.args.level.now.kept.now c.args.next.now c.args.text.now c.loop-place.place c.loop-place.from (omega (arith, c.loop-place-test.false, c.loop-place.auto.place-end)) c.loop-place.invariant.leads)

pub returns-in-None-clause-value : goal.returns-in-None-clause-value
returns-in-None-clause-value g c = row-missing c.args.claimed.now.g.now (claim_of c.args.claimed.now) c.args.level.now.number c.args.level.now.kept.now c.args.next.now c.args.text.now c.loop-place.place c.loop-place.from _ c.loop-place-test.true c.index-kept-place.is (sym c.in-None.ensures) c.loop-place.invariant.leads
