use Rattle.std.proofs.Common.{◌<◌, length, sym, subst, arith}
use Rattle.test_lists.specs.declared.Listed.{Listed}
use Rattle.test_lists.specs.Lists.{IsListed}
use Rattle.test_lists.proofs.longer_lists.Goals as goal

pub loop-listed-preserved : goal.loop-listed-preserved
loop-listed-preserved c from n all =
    let i = c.loop-listed.listed-index in
    let inside : i < length c.args.lists.now = omega arith in
    let listed : IsListed c.args.g.now from n c.listed-item.result =
    subst (λ (l : Listed). IsListed c.args.g.now from n l) (sym c.listed-item.is) (all i c.listed-item.result inside)
    in
    c.in_ok-push_longer.ensures from n listed (c.loop-listed.invariant from n all)
