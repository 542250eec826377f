use Rattle.std.proofs.Common.{◌∙◌, ◌++◌, ap, refl, List}
use Rattle.certificate_text.specs.declared.verdict.Verdict.{Verdict}
use Rattle.certificate_laws.specs.Claims.{kept_of}
use Rattle.front_check.proofs.RowByRow.{all-legal, pushed-by, pushed-none}
use Rattle.front_check.proofs.ahead.push_row.Goals as goal

pub push_kept-requires-clause-legal : goal.push_kept-requires-clause-legal
push_kept-requires-clause-legal c = λ k d inside. all-legal c.args.g.now c.args.p.now c.as_slice-listed.result.now (c.as_slice-listed.ensures ∙ c.legal-actions.ensures) k d inside

pub returns-in-Some : goal.returns-in-Some
returns-in-Some c =
    let read = rw c.in-Some.is at c.in_ok-found.ensures in
    pushed-by c.args.g.now c.args.p.now c.args.line.now c.args.next.now.items _ _ c.as_slice-listed.result.now c.in-Some.row.items refl (c.as_slice-listed.ensures ∙ c.legal-actions.ensures) read
    (c.in_ok-push_kept-in-Some.ensures ∙ ap (λ (l : List Verdict). c.args.next.now.items ++ kept_of c.args.g.now c.args.p.now c.as_slice-listed.result.now l) c.as_slice-verdicts.ensures.value)

pub returns : goal.returns
returns c = pushed-none c.args.g.now c.args.p.now c.args.line.now c.args.next.now.items _ _ c.as_slice-listed.result.now refl (c.as_slice-listed.ensures ∙ c.legal-actions.ensures) (rw c.in-None.is at c.in_ok-found.ensures) refl
