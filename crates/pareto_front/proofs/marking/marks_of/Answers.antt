use Rattle.std.proofs.Common.{◌≡◌, ◌∙◌, ◌+◌, ◌<◌, ℕ, List, [], Bool, length, get_or, take, subst, sym, arith, rules}
use Rattle.std.proofs.lemmas.List.{get_or_default}
use Rattle.pareto_front.specs.Lists.{items_of}
use Rattle.pareto_front.specs.Parts.{AreMarked, AreMarks}
use Rattle.pareto_front.proofs.Marks.{marks-more, put_back}
use Rattle.pareto_front.proofs.Vectors.{length-items, vector-at}
use Rattle.pareto_front.proofs.marking.marks_of.Goals as goal

pub loop-places-preserved : goal.loop-places-preserved
loop-places-preserved c =
    let kept = c.args.kept.now in
    let i = c.loop-places.places-index in
    let inside : i < length kept = search rules in
    let low : i < length (items_of kept) = omega (arith, inside, length-items kept) in
    let places : List ℕ = c.deref.result.now in
    let before : List Bool = c.loop-places.marks.items in
    let marked : AreMarked places before c.mark.new.marks = rw (sym c.deref_mut.ensures.value) c.mark.ensures in
    let is : places ≡ get_or (items_of kept) i places = c.deref.ensures.value ∙ vector-at kept i c.places-item.result inside c.places-item.is ∙ get_or_default (items_of kept) i [] places low in
    let back = put_back before c.mark.new.marks c.loop-places.marks.len (search rules) marked.as_many in
    subst (λ (l : List Bool). AreMarks c.args.count (take (i + 1) (items_of kept)) l) (sym back)
    (marks-more (items_of kept) i places c.args.count before c.mark.new.marks low is c.loop-places.invariant marked)
