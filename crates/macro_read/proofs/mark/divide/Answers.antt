use Rattle.std.proofs.Common.{◌≤◌, ◌<◌, ◌+◌, ◌∙◌, ap, sym, refl, subst, length, take, drop, arith}
use Rattle.std.proofs.lemmas.Bool.{false≢true}
use Rattle.std.proofs.lemmas.List.{take_rest, length-drop}
use Rattle.macro_read.specs.FirstLine.{first_line_length}
use Rattle.macro_read.specs.Mark.{IsMarkLine, IsDivided, IsWholeLines}
use Rattle.macro_read.proofs.Marks.{line-here, length-here, line-fits, divided, whole-more, later-mark, mark-inside}
use Rattle.macro_read.proofs.mark.divide.Goals as goal

pub returns-then-is_mark-clause-parts : goal.returns-then-is_mark-clause-parts
returns-then-is_mark-clause-parts c =
    let input = c.args.input.now in
    let start = c.loop-start.start in
    let line = c.first_line-line.result.now in
    let size = length-here input line start c.first_line-line.ensures in
    let is : IsMarkLine (take (first_line_length (drop start input)) (drop start input)) = subst IsMarkLine (line-here input line start c.first_line-line.ensures) (c.if-is_mark.ensures.0 refl) in
    let found = divided input start c.loop-start-test.true (c.loop-start.invariant.whole c.loop-start-test.true) c.loop-start.invariant.passed is in
    subst (IsDivided input (take start input)) (sym (take_rest input (start + length line) ∙ ap (λ n. drop (start + n) input) size)) found

pub loop-start-preserved : goal.loop-start-preserved
loop-start-preserved c =
    let input = c.args.input.now in
    let start = c.loop-start.start in
    let line = c.first_line-line.result.now in
    let size = length-here input line start c.first_line-line.ensures in
    let lt : start < length input = c.loop-start-test.true in
    let whole = whole-more input start lt (c.loop-start.invariant.whole lt) in
    record {
      inside = omega (arith, line-fits (drop start input), length-drop start input);
      whole = λ inside. subst (λ n. IsWholeLines (take (start + n) input)) (sym size) (whole (subst (λ n. start + n < length input) size inside));
      passed = λ before after marked. subst (λ n. start + n ≤ length before) (sym size)
          (later-mark input before after start marked (c.loop-start.invariant.passed before after marked)
          (λ is. false≢true (c.if-is_mark.ensures.1 (subst IsMarkLine (sym (line-here input line start c.first_line-line.ensures)) is))));
    }

pub returns-clause-parts : goal.returns-clause-parts
returns-clause-parts c = λ before after marked.
    let lt = mark-inside c.args.input.now before after marked in
    let from = c.loop-start.invariant.passed before after marked in
    omega arith
