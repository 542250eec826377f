use Rattle.std.proofs.Common.{◌+◌, List, Bool, get_or, take, subst, sym, arith, rules}
use Rattle.std.proofs.lemmas.List.{get_or_default}
use Rattle.pareto_front.specs.Parts.{AreMarked}
use Rattle.pareto_front.proofs.Marks.{marked-set, marked-skip}
use Rattle.pareto_front.proofs.marking.mark.Goals as goal
use Rattle.pareto_front.proofs.marking.mark.Goals.{then-place-marks, else-place-marks}

pub loop-place-preserved : goal.loop-place-preserved
loop-place-preserved c =
    let places = c.args.places.now in
    let i = c.loop-place.place-index in
    let x = get_or places i 0 in
    let is = get_or_default places i 0 x (search rules) in
    elim c.if-place-marks.branch [
      | then-place-marks w ↦ subst (λ (l : List Bool). AreMarked (take (i + 1) places) c.args.marks.now l) (sym w.marks-is)
          (marked-set places i x c.args.marks.now c.loop-place.marks (search rules) is (search rules) c.loop-place.invariant)
      | else-place-marks w ↦ subst (λ (l : List Bool). AreMarked (take (i + 1) places) c.args.marks.now l) (sym w.marks-is)
          (marked-skip places i x c.args.marks.now c.loop-place.marks (search rules) is (omega arith) c.loop-place.invariant)
    ]
