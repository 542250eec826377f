use Rattle.std.proofs.Common.{List, subst, sym}
use Rattle.walk_table.specs.declared.filling.Made.{Made}
use Rattle.walk_table.specs.Made.{AreMade, IsMade}
use Rattle.walk_table.proofs.Lists.{each_pushed}
use Rattle.walk_table.proofs.filling.make_some.Goals as goal

pub loop-preserved : goal.loop-preserved
loop-preserved c =
    let g = c.args.filled.now.graph in
    let needs = c.args.filled.now.needs in
    subst (λ (l : List Made). AreMade g needs c.args.from c.args.to l) (sym c.in_ok-push.ensures.items)
    (record {
      at = each_pushed (IsMade g needs c.args.from c.args.to) c.loop.made.items (record { place = c.fetch_add-place.result; words = c.in_ok-words.words }) c.loop.invariant.at
          (record { low = c.if-place-from.false; high = c.if-to-place.false; piece = c.in_ok-words.ensures });
    })
