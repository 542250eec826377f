use Rattle.std.proofs.Common.{◌∙◌, append_assoc, refl}
use Rattle.std.proofs.lemmas.Result.{IfOk-weaker}
use Rattle.replay_report.proofs.lines.numbers.Goals as goal

pub returns : goal.returns
returns c = IfOk-weaker c.format.result _ _ (λ t h. h ∙ simp append_assoc refl) c.format.ensures.ok
