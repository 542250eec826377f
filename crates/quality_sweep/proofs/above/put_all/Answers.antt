use Rattle.std.proofs.Common.{◌≡◌, ◌∙◌, sym, ℕ, ◌+◌, ◌<◌, ◌∷◌, ◌++◌, [], List, length, take, ap, subst, arith}
use Rattle.std.proofs.lemmas.List.{take_more}
use Rattle.quality_sweep.specs.declared.candidate.Candidate.{Candidate}
use Rattle.quality_sweep.specs.Places.{place_of}
use Rattle.quality_sweep.specs.Shelves.{ShelvesFields}
use Rattle.quality_sweep.specs.Sweeping.{Puts}
use Rattle.quality_sweep.proofs.Putting.{puts-none, puts-one, puts-append}
use Rattle.quality_sweep.proofs.above.put_all.Goals as goal

-- the candidate's place, on the shelves as they have become
fits : (before after : ShelvesFields) (done : List Candidate) (c : Candidate) → Puts done before after → place_of before.width c.state < length before.lists → place_of after.width c.state < length after.lists
fits before after done c p h = subst (λ (n : ℕ). place_of after.width c.state < n) (sym p.count) (subst (λ (w : ℕ). place_of w c.state < length before.lists) (sym p.width) h)

pub loop-candidate-init : goal.loop-candidate-init
loop-candidate-init c = puts-none c.args.shelves.now

pub put-requires : goal.put-requires
put-requires c =
    let i = c.loop-candidate.candidate-index in
    let inside : i < length c.args.found.now = omega arith in
    let here : place_of c.args.shelves.now.width c.candidate-item.result.state < length c.args.shelves.now.lists =
    subst (λ (x : Candidate). place_of c.args.shelves.now.width x.state < length c.args.shelves.now.lists) (sym c.candidate-item.is) (c.requires i c.candidate-item.result inside)
    in
    fits c.args.shelves.now c.loop-candidate.shelves (take i c.args.found.now) c.candidate-item.result c.loop-candidate.invariant here

pub loop-candidate-preserved : goal.loop-candidate-preserved
loop-candidate-preserved c =
    let i = c.loop-candidate.candidate-index in
    let inside : i < length c.args.found.now = omega arith in
    let here : place_of c.args.shelves.now.width c.candidate-item.result.state < length c.args.shelves.now.lists =
    subst (λ (x : Candidate). place_of c.args.shelves.now.width x.state < length c.args.shelves.now.lists) (sym c.candidate-item.is) (c.requires i c.candidate-item.result inside)
    in
    let more : take (i + 1) c.args.found.now ≡ take i c.args.found.now ++ c.candidate-item.result ∷ [] =
    take_more c.args.found.now i c.candidate-item.result inside ∙ ap (λ (x : Candidate). take i c.args.found.now ++ x ∷ []) (sym c.candidate-item.is)
    in
    let one : Puts (c.candidate-item.result ∷ []) c.loop-candidate.shelves c.put.new.self =
    subst (λ (s : ShelvesFields). Puts (c.candidate-item.result ∷ []) c.loop-candidate.shelves s) (sym c.in_ok-put.ensures)
    (puts-one c.loop-candidate.shelves c.candidate-item.result (fits c.args.shelves.now c.loop-candidate.shelves (take i c.args.found.now) c.candidate-item.result c.loop-candidate.invariant here))
    in
    subst (λ (l : List Candidate). Puts l c.args.shelves.now c.put.new.self) (sym more)
    (puts-append (take i c.args.found.now) (c.candidate-item.result ∷ []) c.args.shelves.now c.loop-candidate.shelves c.put.new.self c.loop-candidate.invariant one)
