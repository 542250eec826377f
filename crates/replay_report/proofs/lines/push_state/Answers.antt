use Rattle.std.proofs.Common.{◌≡◌, ◌∙◌, ◌++◌, List, ℕ, ap, string_bytes}
use Rattle.std.proofs.lemmas.Result.{on_ok_weaker}
use Rattle.action_table.specs.Table.{display_name_of}
use Rattle.replay_report.specs.Holes.{column_holes}
use Rattle.replay_report.proofs.Padding.{column_holes_are}
use Rattle.replay_report.proofs.lines.push_state.Goals as goal

pub returns : goal.returns
returns c =
    let old = string_bytes c.args.text.now in
    let number = c.args.number in
    let name = c.display_name.ensures in
    let after = c.after.view_is in
    let named : (old ++ column_holes number c.display_name.result.now c.after.inside.progress c.after.inside.quality c.after.inside.durability c.after.inside.cp) ≡ (old ++ column_holes number (display_name_of c.args.action) c.args.after.now.progress c.args.after.now.quality c.args.after.now.durability c.args.after.now.cp) = λ j. old ++ column_holes number (name j) (after j).progress (after j).quality (after j).durability (after j).cp in
    let row = ap (λ (line : List ℕ). old ++ line) (column_holes_are number c.args.action c.args.after.now) in
    on_ok_weaker c.push_columns.result (λ h. h ∙ named ∙ row) c.push_columns.ensures
