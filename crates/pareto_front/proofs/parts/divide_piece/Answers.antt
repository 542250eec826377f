use Rattle.std.proofs.Common.{◌≡◌, ◌∙◌, ◌+◌, ◌<◌, arith, rules, subst, length, get_or, sym}
use Rattle.std.proofs.lemmas.List.{get_or_default}
use Rattle.pareto_front.specs.declared.node.Node.{Node}
use Rattle.pareto_front.specs.Lists.{items_of}
use Rattle.pareto_front.specs.Parts.{AreParts}
use Rattle.pareto_front.proofs.Divisions.{length-step, parts-empty, parts-step}
use Rattle.pareto_front.proofs.Vectors.{length-items}
use Rattle.pareto_front.proofs.parts.divide_piece.Goals as goal

pub loop-k-init : goal.loop-k-init
loop-k-init c =
    let start = c.args.piece.now.start in
    let none : start ≡ start + 0 = omega arith in (
      c.in_ok-parts.ensures.many,
      λ level stands. subst (λ n. AreParts level start n (items_of c.in_ok-parts.parts.items)) none (parts-empty level start (items_of c.in_ok-parts.parts.items) c.in_ok-parts.ensures.empty),
    )

pub loop-k-preserved : goal.loop-k-preserved
loop-k-preserved c =
    let piece = c.args.piece.now in
    let start = piece.start in
    let k = c.loop-k.k in
    let low : k < length piece.nodes.now = search rules in
    let more : start + k + 1 ≡ start + (k + 1) = omega arith in
    let node : Node = get_or piece.nodes.now k c.index-piece-k.result in
    let is : node ≡ get_or piece.nodes.now k node = get_or_default piece.nodes.now k c.index-piece-k.result node low in (
      length-step c.loop-k.parts.items c.push_to.new.parts.items _ _ c.in_ok-push_to.ensures ∙ c.loop-k.invariant.0,
      λ level stands. subst (λ n. AreParts level start n (items_of c.push_to.new.parts.items)) more
          (parts-step level start (start + k) _ c.loop-k.parts.items c.push_to.new.parts.items c.part_of.result node c.entry_of-entry.result
          (omega (arith, low, stands.inside)) (is ∙ sym (stands.at k node low)) c.entry_of-entry.ensures.bounds c.loop-k.invariant.0 c.part_of.ensures.inside c.part_of.ensures.part c.entry_of-entry.ensures.value c.in_ok-push_to.ensures
          (c.loop-k.invariant.1 level stands)),
    )

pub returns : goal.returns
returns c =
    let piece = c.args.piece.now in
    let end : c.loop-k.k ≡ length piece.nodes.now = omega arith in
    record {
      many = length-items c.loop-k.parts.items ∙ c.loop-k.invariant.0 ∙ c.part_count-count.ensures;
      are = λ level stands. subst (λ n. AreParts level piece.start (piece.start + n) (items_of c.loop-k.parts.items)) end (c.loop-k.invariant.1 level stands);
    }
