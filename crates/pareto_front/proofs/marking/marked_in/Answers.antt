use Rattle.std.proofs.Common.{◌≡◌, ◌∙◌, ◌<◌, ◌++◌, ◌∷◌, [], List, cond, length, get_or, ap, sym, arith, rules}
use Rattle.std.proofs.lemmas.List.{get_or_default, take_all}
use Rattle.pareto_front.specs.declared.node.Node.{Node}
use Rattle.pareto_front.specs.Parts.{marked_from}
use Rattle.pareto_front.proofs.Places.{marked-more}
use Rattle.pareto_front.proofs.marking.marked_in.Goals as goal

pub loop-k-preserved : goal.loop-k-preserved
loop-k-preserved c =
    let piece = c.args.piece.now in
    let k = c.loop-k.k in
    let mark = c.is_marked-mark.result in
    let low : k < length piece.nodes.now = search rules in
    let node : Node = get_or piece.nodes.now k c.index-piece-k.result in
    let is : node ≡ get_or piece.nodes.now k node = get_or_default piece.nodes.now k c.index-piece-k.result node low in
    c.in_ok-push_marked.ensures ∙ ap (λ (l : List Node). l ++ cond mark (node ∷ []) []) c.loop-k.invariant
    ∙ sym (marked-more piece.start c.args.marks.now piece.nodes.now k node mark low is c.is_marked-mark.ensures)

pub returns : goal.returns
returns c =
    let piece = c.args.piece.now in
    c.loop-k.invariant ∙ ap (marked_from piece.start c.args.marks.now) (take_all c.loop-k.k piece.nodes.now (omega arith))
