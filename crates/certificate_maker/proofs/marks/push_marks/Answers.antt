use Rattle.std.proofs.Common.{rules, ◌≡◌, ◌∙◌, sym, ◌++◌, [], ◌∷◌}
use Rattle.action_table.specs.Table.{all_actions}
use Rattle.front_walk.proofs.Collected.{collect_some, collect_none}
use Rattle.front_check.specs.Judging.{claim_of}
use Rattle.certificate_maker.specs.Marks.{child_mark}
use Rattle.certificate_maker.proofs.marks.push_marks.Goals.{in-Some+in_ok-push, in_default}
use Rattle.certificate_maker.proofs.marks.push_marks.Goals as goal

pub loop-action-preserved : goal.loop-action-preserved
loop-action-preserved g c =
    let h = child_mark (claim_of c.args.stage.now.claimed.now) c.args.stage.now.left c.args.place c.args.node.now in
    record {
      marks = elim c.match-mark_by.branch [
        | in-Some+in_ok-push w ↦
            let pushed : c.match-mark_by.marks.items ≡ c.loop-action.marks.items ++ w.in-Some.mark ∷ [] = search rules in
            collect_some h all_actions c.loop-action.action-index _ w.in-Some.mark _ _ _ c.loop-action-test.true c.loop-action.invariant.marks (sym c.mark_by.ensures.mark ∙ w.in-Some.is) pushed
        | in_default w ↦ rw w.marks-is (collect_none h all_actions c.loop-action.action-index _ _ _ c.loop-action-test.true c.loop-action.invariant.marks (sym c.mark_by.ensures.mark ∙ w.in_default.is))
      ];
      bounds = c.mark_by.ensures.still ∙ c.loop-action.invariant.bounds;
    }
