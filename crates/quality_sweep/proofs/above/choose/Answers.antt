use Rattle.std.proofs.Common.{◌≡◌, ◌∙◌, sym, ◌+◌, ◌<◌, ◌∷◌, ◌++◌, [], List, length, take, ap, subst, arith}
use Rattle.std.proofs.lemmas.List.{take_more}
use Rattle.quality_sweep.specs.declared.candidate.Candidate.{Candidate}
use Rattle.quality_sweep.specs.Sweeping.{Chooses}
use Rattle.quality_sweep.proofs.Choosing.{chooses-none, chooses-append}
use Rattle.quality_sweep.proofs.above.choose.Goals as goal

pub loop-candidate-init : goal.loop-candidate-init
loop-candidate-init c = chooses-none c.args.g.now c.args.best c.args.kept.now c.args.chosen.now.items

pub loop-candidate-preserved : goal.loop-candidate-preserved
loop-candidate-preserved c =
    let i = c.loop-candidate.candidate-index in
    let inside : i < length c.args.batch.now = omega arith in
    let more : take (i + 1) c.args.batch.now ≡ take i c.args.batch.now ++ c.candidate-item.result ∷ [] =
    take_more c.args.batch.now i c.candidate-item.result inside ∙ ap (λ (x : Candidate). take i c.args.batch.now ++ x ∷ []) (sym c.candidate-item.is)
    in
    subst (λ (l : List Candidate). Chooses c.args.g.now l c.args.best c.args.kept.now c.choose_one.new.kept c.args.chosen.now.items c.choose_one.new.chosen.items) (sym more)
    (chooses-append c.args.g.now (take i c.args.batch.now) (c.candidate-item.result ∷ []) c.args.best c.args.kept.now c.loop-candidate.kept c.choose_one.new.kept
    c.args.chosen.now.items c.loop-candidate.chosen.items c.choose_one.new.chosen.items c.loop-candidate.invariant c.in_ok-choose_one.ensures)
