use Rattle.std.proofs.Common.{◌+◌, arith, subst, sym, List}
use Rattle.certificate_text.specs.declared.verdict.Verdict.{Verdict}
use Rattle.certificate_text.specs.Text.{space, parts}
use Rattle.certificate_text.specs.Reading.{IsReadRow}
use Rattle.certificate_text.proofs.WordByWord.{Left, from_on, left-at-start, row-next, row-short, row-wide, row-bad, row-bad_last, row-whole, mark-inside}
use Rattle.certificate_text.proofs.words.read_row.Goals as goal

pub loop-read-init : goal.loop-read-init
loop-read-init c = record {
  inside = omega arith;
  left = subst (λ (row : List Verdict). Left c.args.line.now c.args.count 0 row (parts space (from_on 0 c.args.line.now))) (sym c.in_ok-row.ensures.items) (left-at-start c.args.line.now c.args.count (omega arith));
}

pub loop-read-preserved : goal.loop-read-preserved
loop-read-preserved c = record {
  inside = mark-inside c.args.line.now c.loop-read.from c.in-Some.end c.loop-read.invariant.inside (sym c.in-Some.ensures);
  left =
      subst (λ (row : List Verdict). Left c.args.line.now c.args.count (c.loop-read.read + 1) row (parts space (from_on (c.loop-read.from + (c.in-Some.end + 1)) c.args.line.now))) (sym c.in_ok-push.ensures.items)
      (row-next c.args.line.now c.args.count c.loop-read.read c.loop-read.row.items c.loop-read.from c.in-Some.end c.in-Some-read_word.verdict (sym c.in-Some.ensures) c.loop-read.invariant.left c.in-Some-read_word.ensures);
}

pub returns-in-None : goal.returns-in-None
returns-in-None c = row-short c.args.line.now c.args.count c.loop-read.read c.loop-read.row.items c.loop-read.from (sym c.in-None.ensures) c.loop-read.invariant.left (omega (arith, c.loop-read-test.true))

pub returns-in-None-read_word : goal.returns-in-None-read_word
returns-in-None-read_word c = row-bad c.args.line.now c.args.count c.loop-read.read c.loop-read.row.items c.loop-read.from c.in-Some.end (sym c.in-Some.ensures) c.loop-read.invariant.left c.in-None-read_word.ensures

pub returns-in-Some-end_of : goal.returns-in-Some-end_of
returns-in-Some-end_of c = row-wide c.args.line.now c.args.count c.loop-read.read c.loop-read.row.items c.loop-read.from _ (sym c.in-Some-end_of.ensures) c.loop-read.invariant.left (omega (arith, c.loop-read-test.false))

pub returns-in-None-read_word-2 : goal.returns-in-None-read_word-2
returns-in-None-read_word-2 c = row-bad_last c.args.line.now c.args.count c.loop-read.read c.loop-read.row.items c.loop-read.from (sym c.in-None-end_of.ensures) c.loop-read.invariant.left c.in-None-read_word-2.ensures

pub returns-in_ok-push-in-Some-read_word-2 : goal.returns-in_ok-push-in-Some-read_word-2
returns-in_ok-push-in-Some-read_word-2 c =
    subst (λ (row : List Verdict). IsReadRow c.args.line.now c.args.count row) (sym c.in_ok-push-in-Some-read_word-2.ensures.items)
    (row-whole c.args.line.now c.args.count c.loop-read.read c.loop-read.row.items c.loop-read.from c.in-Some-read_word-2.verdict (sym c.in-None-end_of.ensures) c.loop-read.invariant.left c.in-Some-read_word-2.ensures (omega (arith, c.loop-read-test.false, c.loop-read.auto.read-end)))
