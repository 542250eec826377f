use Rattle.std.proofs.Common.{◌∙◌, sym, refl, ap, ◌++◌, ◌<◌, length, arith}
use Rattle.pareto_front.specs.declared.node.Node.{Node}
use Rattle.certificate_maker.specs.Marks.{node_marks}
use Rattle.front_check.specs.Judging.{claim_of}
use Rattle.certificate_maker.proofs.Marked.{marks-none, marks-all, marks-more}
use Rattle.certificate_maker.proofs.marks.marks_of.Goals as goal

pub loop-place-init : goal.loop-place-init
loop-place-init g c = record {
  marks = c.new-marks.ensures.items ∙ sym (marks-none (claim_of c.args.stage.now.claimed.now) c.args.stage.now.left c.args.stage.now.nodes.now 0 refl);
  bounds = refl;
}

pub loop-place-preserved : goal.loop-place-preserved
loop-place-preserved g c =
    let inside : c.loop-place.place < length c.args.stage.now.nodes.now = omega arith in
    record {
      marks = marks-more (claim_of c.args.stage.now.claimed.now) c.args.stage.now.left c.args.stage.now.nodes.now c.loop-place.place c.index-stage-place.result c.loop-place.marks.items _ inside c.index-stage-place.is c.loop-place.invariant.marks
          (c.in_ok-push_marks.ensures.marks ∙ ap (λ (n : Node). c.loop-place.marks.items ++ node_marks (claim_of c.args.stage.now.claimed.now) c.args.stage.now.left c.loop-place.place n) (sym c.index-stage-place.is));
      bounds = c.push_marks.ensures.still ∙ c.loop-place.invariant.bounds;
    }

pub returns-clause-marks : goal.returns-clause-marks
returns-clause-marks g c =
    c.loop-place.invariant.marks ∙ marks-all (claim_of c.args.stage.now.claimed.now) c.args.stage.now.left c.args.stage.now.nodes.now c.loop-place.place (omega arith)
