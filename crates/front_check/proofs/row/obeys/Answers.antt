use Rattle.std.proofs.Common.{◌∙◌, refl}
use Rattle.front_check.specs.Judging.{claim_of}
use Rattle.front_check.proofs.RowByRow.{all-legal}
use Rattle.front_check.proofs.RowJudged.{child-begun, child-begins, judged-next, judged-bad, judged-good, judged-none, is_so, is_not, not_false}
use Rattle.front_check.proofs.row.obeys.Goals as goal

pub turn-requires-clause-legal : goal.turn-requires-clause-legal
turn-requires-clause-legal g c = all-legal c.args.claimed.now.g.now c.args.p.now c.as_slice-listed.result.now (c.as_slice-listed.ensures ∙ c.legal-actions.ensures) c.loop-place.place _ c.loop-place-test.true

pub holds-requires-clause-p : goal.holds-requires-clause-p
holds-requires-clause-p g c =
    child-begun c.args.claimed.now.g.now c.args.p.now c.turn.new.self _ c.requires.p
    (all-legal c.args.claimed.now.g.now c.args.p.now c.as_slice-listed.result.now (c.as_slice-listed.ensures ∙ c.legal-actions.ensures) c.loop-place.place _ c.loop-place-test.true) c.in_ok-turn-in-Some.ensures

pub returns-then-not-holds-clause-value : goal.returns-then-not-holds-clause-value
returns-then-not-holds-clause-value g c =
    is_not (judged-bad (claim_of c.args.claimed.now) c.args.next.now c.args.p.now c.turn.new.self c.args.line.now c.as_slice-listed.result.now c.as_slice-verdicts.result.now c.in-Some.row.items c.loop-place.place _ _ (rw c.in-Some.is at c.in_ok-found.ensures) c.as_slice-verdicts.ensures.value
    (c.as_slice-listed.ensures ∙ c.legal-actions.ensures) c.requires.few c.loop-place-test.true c.in_ok-turn-in-Some.ensures (not_false c.if-not-holds.ensures.value))

pub loop-place-preserved : goal.loop-place-preserved
loop-place-preserved g c = record {
  rows = judged-next (claim_of c.args.claimed.now) c.args.next.now c.args.p.now c.turn.new.self c.args.line.now c.as_slice-listed.result.now c.as_slice-verdicts.result.now c.in-Some.row.items c.loop-place.place _ _ (rw c.in-Some.is at c.in_ok-found.ensures) c.as_slice-verdicts.ensures.value
      c.loop-place-test.true c.in_ok-turn-in-Some.ensures (c.if-not-holds.ensures.value.0 refl) c.loop-place.invariant.rows;
  begins = child-begins c.args.claimed.now.g.now c.args.p.now c.turn.new.self _ c.in_ok-turn-in-Some.ensures;
  bounds = c.holds.ensures.still ∙ c.loop-place.invariant.bounds;
}

pub returns-in-Some-clause-value : goal.returns-in-Some-clause-value
returns-in-Some-clause-value g c =
    is_so (judged-good (claim_of c.args.claimed.now) c.args.next.now c.args.p.now c.args.line.now c.as_slice-listed.result.now c.as_slice-verdicts.result.now c.in-Some.row.items c.loop-place.place (rw c.in-Some.is at c.in_ok-found.ensures) c.as_slice-verdicts.ensures.value
    (c.as_slice-listed.ensures ∙ c.legal-actions.ensures) c.requires.few c.loop-place-test.false c.loop-place.invariant.rows)

pub returns-clause-value : goal.returns-clause-value
returns-clause-value g c = is_not (judged-none (claim_of c.args.claimed.now) c.args.next.now c.args.p.now c.args.line.now c.as_slice-listed.result.now (c.as_slice-listed.ensures ∙ c.legal-actions.ensures) (rw c.in-None.is at c.in_ok-found.ensures))
