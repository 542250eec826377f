use Rattle.std.proofs.Common.{◌∙◌, ◌<◌, ◌++◌, List, length, ap, sym, arith, rules}
use Rattle.std.proofs.lemmas.List.{length-append}
use Rattle.pareto_front.specs.declared.node.Node.{Node}
use Rattle.pareto_front.specs.Pieces.{nodes_in}
use Rattle.pareto_front.proofs.Cuts.{lists-more}
use Rattle.pareto_front.proofs.pieces.pieces_of.Goals as goal

pub loop-list-preserved : goal.loop-list-preserved
loop-list-preserved c =
    let lists = c.args.lists.now in
    let i = c.loop-list.list-index in
    let list = c.list-item.result in
    let inside : i < length lists = search rules in
    let before : List Node = nodes_in c.loop-list.pieces.items in
    let nodes = c.in_ok-len.ensures.nodes in (
      nodes ∙ ap (λ (l : List Node). l ++ list.now) c.loop-list.invariant.0 ∙ sym (lists-more lists i list inside c.list-item.is),
      c.in_ok-len.ensures.order,
      omega (arith, c.in_ok-len.ensures.end, c.loop-list.invariant.2, ap length nodes, length-append before list.now),
    )
