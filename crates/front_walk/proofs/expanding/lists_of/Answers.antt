use Rattle.std.proofs.Common.{◌∙◌, sym, ap, is_ok, IsOk}
use Rattle.std.proofs.lemmas.List.Elements.{All-more}
use Rattle.front_walk.specs.declared.walker.Walker.{Walker}
use Rattle.front_walk.specs.Asking.{nodes_in}
use Rattle.front_walk.proofs.Joined.{lists-more}
use Rattle.front_walk.proofs.expanding.lists_of.Goals as goal

pub loop-walker-preserved : goal.loop-walker-preserved
loop-walker-preserved g c = record {
  nodes = lists-more c.args.first.now c.loop-walker.lists.items c.push-in-Ok.new.self.items c.as_slice.result c.args.walkers.now c.loop-walker.walker-index c.walker-item.result c.loop-walker-test.true c.walker-item.is
      c.loop-walker.invariant.nodes c.in_ok-push-in-Ok.ensures.items (c.as_slice.ensures.value ∙ sym (ap nodes_in c.in-Ok.is));
  whole = All-more (λ (w : Walker _). IsOk w.found) c.args.walkers.now c.loop-walker.walker-index c.walker-item.result c.loop-walker-test.true c.loop-walker.invariant.whole
      (ap (λ (w : Walker _). is_ok w.found) (sym c.walker-item.is) ∙ ap is_ok c.in-Ok.is);
}
