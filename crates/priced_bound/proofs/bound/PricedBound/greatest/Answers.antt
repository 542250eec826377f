use Rattle.std.proofs.Common.{rules, ℕ, Option, ◌≡◌, ◌<◌, ◌∙◌, length, slice_index_or, refl, ap, arith}
use Rattle.relaxed_moves.specs.Optimum.{option_max}
use Rattle.priced_moves.specs.Edges.{greatest_edge}
use Rattle.priced_bound.specs.Tables.{table_lead}
use Rattle.priced_bound.proofs.Lists.{max-more, max-end}
use Rattle.priced_bound.proofs.bound.PricedBound.greatest.Goals as goal

pub lead-requires-clause-edge : goal.lead-requires-clause-edge
lead-requires-clause-edge c =
    let below : c.loop-i.i < length c.args.edges.now = search rules in
    let here : slice_index_or c.args.edges.now c.loop-i.i c.index-edges-i.result ≡ c.index-edges-i.result = search rules in
    c.requires.edges c.loop-i.i c.index-edges-i.result (below, here)

pub loop-i-init : goal.loop-i-init
loop-i-init c = refl

pub loop-i-preserved : goal.loop-i-preserved
loop-i-preserved c =
    let below : c.loop-i.i < length c.args.edges.now = search rules in
    let here : slice_index_or c.args.edges.now c.loop-i.i c.index-edges-i.result ≡ c.index-edges-i.result = search rules in
    max-more (table_lead c.args.self.now.by c.args.budget c.args.need) c.args.edges.now c.loop-i.i c.index-edges-i.result c.loop-i.most c.greater-most.result
    (option_max c.args.plain (greatest_edge (table_lead c.args.self.now.by c.args.budget c.args.need) c.args.edges.now)) below here
    (c.greater-most.ensures ∙ ap (λ (o : Option ℕ). option_max c.loop-i.most o) c.lead.ensures) c.loop-i.invariant

pub returns : goal.returns
returns c =
    max-end (table_lead c.args.self.now.by c.args.budget c.args.need) c.args.edges.now c.loop-i.i c.loop-i.most
    (option_max c.args.plain (greatest_edge (table_lead c.args.self.now.by c.args.budget c.args.need) c.args.edges.now)) (omega arith) c.loop-i.invariant
