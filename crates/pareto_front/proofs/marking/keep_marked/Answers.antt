use Rattle.std.proofs.Common.{◌≡◌, ◌∙◌, IfOk, Result, Vec, Global, ap, subst}
use Rattle.std.specs.List.{AllZip, flat_map}
use Rattle.rayon.proofs.ListFacts.{IfOk-then}
use Rattle.action_table.specs.declared.memory.WantMemory.{WantMemory}
use Rattle.pareto_front.specs.declared.node.Node.{Node}
use Rattle.pareto_front.specs.declared.piece.Piece.{Piece}
use Rattle.pareto_front.specs.Parts.{marked_from}
use Rattle.pareto_front.proofs.Cuts.{marked-joined}
use Rattle.pareto_front.proofs.marking.keep_marked.Goals as goal

pub returns : goal.returns
returns g c =
    let level = c.args.level.now in
    let marks = c.args.marks.now in
    let found = c.in_ok-found.found.items in
    let all = subst (λ (r : Result (Vec (Vec Node Global) Global) WantMemory). IfOk r (λ v. AllZip (λ (p : Piece) (nodes : Vec Node Global). nodes.items ≡ marked_from p.start marks p.nodes.now) c.deref.result.now v.items)) c.in_ok-found.was c.in_ok-marked_in_all.ensures in
    IfOk-then c.join_lists.result _ _ c.join_lists.ensures (λ v h.
    h ∙ ap (flat_map (λ (nodes : Vec Node Global). nodes.items)) c.deref-2.ensures.value
    ∙ marked-joined marks 0 level.pieces.items found c.requires (rw c.deref.ensures.value at all))
