use Rattle.std.proofs.Common.{◌≡◌, ◌∙◌, sym, ◌+◌, ◌<◌, ◌∷◌, ◌++◌, [], List, length, take, ap, subst, arith}
use Rattle.std.proofs.lemmas.List.{take_more}
use Rattle.quality_sweep.specs.declared.candidate.Candidate.{Candidate}
use Rattle.quality_sweep.specs.Sweeping.{Explores}
use Rattle.quality_sweep.proofs.Exploring.{explores-none, explores-more}
use Rattle.quality_sweep.proofs.expand.explore.Goals as goal

pub loop-candidate-init : goal.loop-candidate-init
loop-candidate-init g c =
    subst (λ (l : List Candidate). Explores c.args.outlook.now.g.now (g.C.Ceiling.allows c.args.outlook.now.ceiling.now) c.args.outlook.now.from.now [] l c.args.best c.args.best) (sym c.clear.ensures.items)
    (explores-none c.args.outlook.now.g.now (g.C.Ceiling.allows c.args.outlook.now.ceiling.now) c.args.outlook.now.from.now c.args.best)

pub loop-candidate-preserved : goal.loop-candidate-preserved
loop-candidate-preserved g c =
    let i = c.loop-candidate.candidate-index in
    let inside : i < length c.args.batch.now = omega arith in
    let more : take (i + 1) c.args.batch.now ≡ take i c.args.batch.now ++ c.candidate-item.result ∷ [] =
    take_more c.args.batch.now i c.candidate-item.result inside ∙ ap (λ (x : Candidate). take i c.args.batch.now ++ x ∷ []) (sym c.candidate-item.is)
    in
    subst (λ (l : List Candidate). Explores c.args.outlook.now.g.now (g.C.Ceiling.allows c.args.outlook.now.ceiling.now) c.args.outlook.now.from.now l c.expand.new.found.items c.args.best c.in_ok-best.best) (sym more)
    (explores-more c.args.outlook.now.g.now (g.C.Ceiling.allows c.args.outlook.now.ceiling.now) c.args.outlook.now.from.now (take i c.args.batch.now) c.candidate-item.result c.loop-candidate.found.items c.expand.new.found.items
    c.args.best c.loop-candidate.best c.in_ok-best.best c.loop-candidate.invariant c.in_ok-best.ensures)
