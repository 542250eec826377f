use Rattle.std.proofs.Common.{ℕ, ◌≡◌, ◌-◌, ◌*◌, ◌∙◌, List, Option, Vec, length, ap, subst, sym, arith}
use Rattle.walk_table.specs.Made.{AreMade}
use Rattle.walk_table.specs.Pieces.{pieces_of, AreSlots}
use Rattle.walk_table.proofs.Lists.{ok_mapped}
use Rattle.walk_table.proofs.Places.{ready_at, places_ordered}
use Rattle.walk_table.proofs.filling.make_block.Goals as goal

pub map_indices-requires-after_bounds : goal.map_indices-requires-after_bounds
map_indices-requires-after_bounds g c κs within i few place lt =
    ready_at c.args.filled.now.graph c.args.filled.now.budgets c.args.end c.places_below-to.result place c.places_below-to.ensures c.requires.near lt

pub arrange-requires-clause-placed : goal.arrange-requires-clause-placed
arrange-requires-clause-placed g c =
    let made : AreMade c.args.filled.now.graph c.args.filled.now.needs c.places_below-from.result c.places_below-to.result c.in_ok-gather.field-0.items =
    c.in_ok-gather.ensures c.args.filled.now.graph c.args.filled.now.needs c.places_below-from.result c.places_below-to.result
    (λ i d lt. let k = (c.in_ok-parts.ensures.each i d (omega (arith, c.in_ok-parts.ensures.len))).1 in k.met) in
    record { at = λ k d lt. (let m = made.at k d lt in (m.low, m.high)) }

pub complete-requires-clause-ready : goal.complete-requires-clause-ready
complete-requires-clause-ready g c place lt =
    let ordered = places_ordered c.args.filled.now.budgets c.args.end c.args.filled.now.graph.nodes c.requires.later in
    let from : c.places_below-from.result ≡ c.args.filled.now.budgets * pieces_of c.args.filled.now.graph.nodes =
    c.places_below-from.ensures ∙ ap (λ (n : ℕ). n * pieces_of c.args.filled.now.graph.nodes) c.budgets.ensures in
    let to : c.places_below-to.result ≡ c.args.end * pieces_of c.args.filled.now.graph.nodes = c.places_below-to.ensures in
    let long : length c.as_mut_slice.result.now ≡ c.places_below-to.result - c.places_below-from.result = ap length c.as_mut_slice.ensures.value ∙ c.in_ok-slots.ensures.len in
    ready_at c.args.filled.now.graph c.args.filled.now.budgets c.args.end c.places_below-to.result place to c.requires.near (omega arith)

pub complete-requires-clause-slots : goal.complete-requires-clause-slots
complete-requires-clause-slots g c =
    let made : AreMade c.args.filled.now.graph c.args.filled.now.needs c.places_below-from.result c.places_below-to.result c.in_ok-gather.field-0.items =
    c.in_ok-gather.ensures c.args.filled.now.graph c.args.filled.now.needs c.places_below-from.result c.places_below-to.result
    (λ i d lt. let k = (c.in_ok-parts.ensures.each i d (omega (arith, c.in_ok-parts.ensures.len))).1 in k.met) in
    subst (λ (l : List (Option (Vec ℕ _))). AreSlots c.args.filled.now.graph c.args.filled.now.needs c.places_below-from.result l) (sym c.as_mut_slice.ensures.value)
    (c.in_ok-slots.ensures.slots c.args.filled.now.graph c.args.filled.now.needs made)

pub returns-clause-len : goal.returns-clause-len
returns-clause-len g c =
    let ordered = places_ordered c.args.filled.now.budgets c.args.end c.args.filled.now.graph.nodes c.requires.later in
    let from : c.places_below-from.result ≡ c.args.filled.now.budgets * pieces_of c.args.filled.now.graph.nodes =
    c.places_below-from.ensures ∙ ap (λ (n : ℕ). n * pieces_of c.args.filled.now.graph.nodes) c.budgets.ensures in
    let to : c.places_below-to.result ≡ c.args.end * pieces_of c.args.filled.now.graph.nodes = c.places_below-to.ensures in
    let long : length c.as_mut_slice.result.now ≡ c.places_below-to.result - c.places_below-from.result = ap length c.as_mut_slice.ensures.value ∙ c.in_ok-slots.ensures.len in
    ok_mapped c.complete.result (λ v. length v.items ≡ length c.as_mut_slice.result.now) _ (λ v is. omega arith) c.complete.ensures.len
