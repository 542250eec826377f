use Rattle.std.proofs.Common.{◌∙◌, sym, ap, List}
use Rattle.action_table.specs.declared.action.Action.{Action}
use Rattle.macro_order.specs.Order.{score_of}
use Rattle.front_check.proofs.OpeningLines.{first-missing, first-other, second-missing, second-other, second-unscored, opened-named}
use Rattle.front_check.proofs.opening.read_opening.Goals as goal

pub returns-in-None : goal.returns-in-None
returns-in-None c = first-missing c.args.g.now c.args.text.now (sym c.in-None.ensures)

pub returns-in-None-2 : goal.returns-in-None-2
returns-in-None-2 c = first-other c.args.g.now c.args.text.now c.in-Some.end (sym c.in-Some.ensures) (rw c.in-None-2.is at c.in_ok-grain.ensures)

pub returns-in-None-end_of : goal.returns-in-None-end_of
returns-in-None-end_of c =
    let named = rw c.in-Some-2.is at c.in_ok-grain.ensures in
    second-missing c.args.g.now c.args.text.now c.in-Some.end c.in-Some-2.grain (sym c.in-Some.ensures) named.0 named.1 (sym c.in-None-end_of.ensures)

pub returns-in-None-3 : goal.returns-in-None-3
returns-in-None-3 c =
    let named = rw c.in-Some-2.is at c.in_ok-grain.ensures in
    second-other c.args.g.now c.args.text.now c.in-Some.end c.in-Some-end_of.end c.in-Some-2.grain (sym c.in-Some.ensures) named.0 named.1 (sym c.in-Some-end_of.ensures) (rw c.in-None-3.is at c.in_ok-actions.ensures)

pub returns-in-None-score : goal.returns-in-None-score
returns-in-None-score c =
    let named = rw c.in-Some-2.is at c.in_ok-grain.ensures in
    second-unscored c.args.g.now c.args.text.now c.in-Some.end c.in-Some-end_of.end c.in-Some-2.grain c.in-Some-3.actions.items (sym c.in-Some.ensures) named.0 named.1 (sym c.in-Some-end_of.ensures)
    (rw c.in-Some-3.is at c.in_ok-actions.ensures) (c.in-None-score.ensures ∙ ap (λ (l : List Action). score_of c.args.g.now l) c.as_slice.ensures.value)

pub returns-in-Some-score : goal.returns-in-Some-score
returns-in-Some-score c =
    let named = rw c.in-Some-2.is at c.in_ok-grain.ensures in
    opened-named c.args.g.now c.args.text.now c.in-Some.end c.in-Some-end_of.end c.in-Some-2.grain c.in-Some-3.actions.items c.in-Some-score.score (sym c.in-Some.ensures) named.0 named.1 (sym c.in-Some-end_of.ensures)
    (rw c.in-Some-3.is at c.in_ok-actions.ensures) (c.in-Some-score.ensures ∙ ap (λ (l : List Action). score_of c.args.g.now l) c.as_slice.ensures.value)
