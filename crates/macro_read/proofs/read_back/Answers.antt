use Rattle.std.proofs.Common.{◌≤◌, ◌∙◌, sym, subst, length}
use Rattle.macro_read.specs.Reading.{IsMacroText, IsFault}
use Rattle.macro_read.proofs.Sizes.{size-blocks}
use Rattle.macro_read.proofs.Written.{named-again}
use Rattle.macro_read.proofs.read_back.Goals as goal

pub macro_of-requires : goal.macro_of-requires
macro_of-requires c = subst (λ text. length text ≤ 65536) (sym (c.deref.ensures.value ∙ c.in_ok-text.ensures)) (size-blocks c.args.actions.now c.requires)

pub unreachable-requires : goal.unreachable-requires
unreachable-requires c =
    let again = subst (λ text. IsMacroText text c.args.actions.now) (sym (c.deref.ensures.value ∙ c.in_ok-text.ensures)) (named-again c.args.actions.now c.requires) in
    (subst (IsFault c.deref.result.now) c.in-Err-BadLine.field-0-is c.in-Err-BadLine.ensures.fault).1 c.args.actions.now again

pub returns-in-Ok-clause-same : goal.returns-in-Ok-clause-same
returns-in-Ok-clause-same c =
    let again = subst (λ text. IsMacroText text c.args.actions.now) (sym (c.deref.ensures.value ∙ c.in_ok-text.ensures)) (named-again c.args.actions.now c.requires) in
    sym ((c.in-Ok.ensures.ok c.args.actions.now).0 again)
