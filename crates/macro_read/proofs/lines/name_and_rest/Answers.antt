use Rattle.std.proofs.Common.{sym, ◌∙◌}
use Rattle.macro_read.proofs.Names.{no_name, name_before, cut_at}
use Rattle.macro_read.proofs.lines.name_and_rest.Goals as goal

pub returns-in_err-end : goal.returns-in_err-end
returns-in_err-end c =
    rw c.from_residual.ensures (no_name c.args.text.now (sym c.first_place.ensures ∙ c.in_err-end.was))

pub returns-in_err-action : goal.returns-in_err-action
returns-in_err-action c =
    rw c.from_residual-in_err-action.ensures (λ action rest is. c.in_err-action.ensures action (name_before c.args.text.now c.in_ok-end.end (sym c.first_place.ensures ∙ c.in_ok-end.was) action rest is))

pub returns : goal.returns
returns c = cut_at c.args.text.now c.in_ok-end.end (sym c.first_place.ensures ∙ c.in_ok-end.was) _ c.in_ok-action.ensures
