use Rattle.std.proofs.Common.{[], append-nil, arith, sym}
use Rattle.pareto_front.proofs.Cuts.{cut-more}
use Rattle.pareto_front.proofs.pieces.push_pieces.Goals as goal

pub loop-rest-preserved : goal.loop-rest-preserved
loop-rest-preserved c =
    let so_far = c.loop-rest.invariant in
    let rest = c.loop-rest.rest.now in
    let back = c.split_at.result.1.now in
    let more = cut-more c.loop-rest.pieces.items c.push.new.self.items _ rest back _ c.in_ok-push.ensures.items so_far.2 c.split_at.ensures.by_index.0 so_far.1 so_far.0 in
    (more.0, more.1, omega (arith, more.2, so_far.2, c.split_at.ensures.front_len), omega (arith, so_far.3, c.split_at.ensures.back_len))

pub returns-clause-order : goal.returns-clause-order
returns-clause-order c =
    let so_far = c.loop-rest.invariant in
    let rest = c.loop-rest.rest.now in
    let more = cut-more c.loop-rest.pieces.items c.push-2.new.self.items _ rest [] _ c.in_ok-push-2.ensures.items so_far.2 (sym (append-nil rest)) so_far.1 so_far.0 in
    more.1
