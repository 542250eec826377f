use Rattle.std.proofs.Common.{List, Result, IfOk, Vec, sym, subst}
use Rattle.walk_table.specs.declared.filling.Made.{Made}
use Rattle.walk_table.specs.Made.{AreMade, IsMade}
use Rattle.walk_table.proofs.Lists.{each_popped, each_joined}
use Rattle.walk_table.proofs.filling.gather.Goals as goal

pub loop-part-preserved : goal.loop-part-preserved
loop-part-preserved c g needs from to h =
    let before = c.loop-part.invariant g needs from to h in
    let parts = each_popped (λ (r : Result (Vec Made _) _). IfOk r (λ made. AreMade g needs from to made.items)) c.loop-part.parts.items c.pop.new.self.items c.in-Some.part c.in-Some.ensures.items before.0 in
    let more : AreMade g needs from to c.in_ok-made.made.items = subst (λ (r : Result (Vec Made _) _). IfOk r (λ made. AreMade g needs from to made.items)) c.in_ok-made.was parts.1 in (
      parts.0,
      subst (λ (l : List Made). AreMade g needs from to l) (sym c.in_ok-append.ensures.items)
          (record { at = each_joined (IsMade g needs from to) c.loop-part.all.items c.in_ok-made.made.items before.1.at more.at }),
    )
