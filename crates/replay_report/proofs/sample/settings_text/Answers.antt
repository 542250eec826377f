use Rattle.std.proofs.Common.{◌≡◌, ◌∙◌, append_assoc, refl, string_bytes}
use Rattle.std.proofs.lemmas.Result.{IfOk-weaker}
use Rattle.craft_settings.specs.Inside.{settings_fields}
use Rattle.replay_report.specs.Sample.{sample_line}
use Rattle.replay_report.proofs.sample.settings_text.Goals as goal

pub returns : goal.returns
returns c =
    let number = c.args.number in
    let same : sample_line number (settings_fields c.g.inside) ≡ sample_line number c.args.g.now = λ j. sample_line number (c.g.view_is j) in
    IfOk-weaker c.format.result _ _ (λ t h. let written : string_bytes t ≡ sample_line number (settings_fields c.g.inside) = h ∙ simp append_assoc refl in written ∙ same) c.format.ensures.ok
