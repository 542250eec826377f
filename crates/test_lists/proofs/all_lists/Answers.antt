use Rattle.std.proofs.Common.{◌≡◌, ◌+◌, List, All, sym, subst}
use Rattle.test_lists.specs.declared.Listed.{Listed}
use Rattle.test_lists.specs.Lists.{IsListed}
use Rattle.test_lists.proofs.Longer.{all_within}
use Rattle.test_lists.proofs.all_lists.Goals as goal

pub loop-turn-preserved : goal.loop-turn-preserved
loop-turn-preserved c =
    let g = c.args.g.now in
    let from = c.args.from.now in
    let n = c.loop-turn._turn in
    let same : c.deref.result.now ≡ c.loop-turn.lists.items = c.deref.ensures.value in
    let lists : All (IsListed g from n) c.deref.result.now =
    subst (λ (ls : List Listed). All (IsListed g from n) ls) (sym same) c.loop-turn.invariant.listed
    in
    let longer : All (IsListed g from (n + 1)) c.in_ok-lists.lists.items = c.in_ok-lists.ensures from n lists in
    record { listed = longer; within = all_within g from (n + 1) c.in_ok-lists.lists.items longer }
