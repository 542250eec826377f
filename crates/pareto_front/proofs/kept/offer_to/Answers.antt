use Rattle.std.proofs.Common.{true, false, not, ap}
use Rattle.std.proofs.lemmas.List.{length-map}
use Rattle.pareto_front.specs.Lists.{items_of}
use Rattle.pareto_front.proofs.Indexed.{answer-covered, indexed-joined}
use Rattle.pareto_front.proofs.kept.offer_to.Goals as goal

pub returns-in_err-index-clause-indexed : goal.returns-in_err-index-clause-indexed
returns-in_err-index-clause-indexed c = c.find_or_add.ensures.indexed c.args.states.now.items c.requires

pub returns-then-is_reached-clause-indexed : goal.returns-then-is_reached-clause-indexed
returns-then-is_reached-clause-indexed c = c.find_or_add.ensures.indexed c.args.states.now.items c.requires

pub returns-then-is_reached-clause-answer : goal.returns-then-is_reached-clause-answer
returns-then-is_reached-clause-answer c =
    let are = c.find_or_add.ensures.indexed c.args.states.now.items c.requires in
    let covered = answer-covered c.args.states.now.items c.find_or_add.new.keys.keys c.find_or_add.new.groups.items c.args.s.now c.key_of-key.result c.in_ok-index.index c.index.result.now c.deref.result.now c.of-numbers.result true
    c.key_of-key.ensures.bounds c.key_of-key.ensures.value c.in_ok-index.ensures.at c.in_ok-index.ensures.inside c.index.ensures c.deref.ensures.value c.of-numbers.ensures c.if-is_reached.ensures are in
    ap not covered

pub returns-in_err-try_reserve-clause-indexed : goal.returns-in_err-try_reserve-clause-indexed
returns-in_err-try_reserve-clause-indexed c =
    rw c.try_reserve.ensures.items (c.find_or_add.ensures.indexed c.args.states.now.items c.requires)

pub returns-in_err-push_to-clause-indexed : goal.returns-in_err-push_to-clause-indexed
returns-in_err-push_to-clause-indexed c =
    rw (c.try_reserve.ensures.items, c.in_err-push_to.ensures.refused) (c.find_or_add.ensures.indexed c.args.states.now.items c.requires)

pub returns-clause-indexed : goal.returns-clause-indexed
returns-clause-indexed c =
    let are = c.find_or_add.ensures.indexed c.args.states.now.items c.requires in
    let groups = c.find_or_add.new.groups.items in
    indexed-joined c.args.states.now.items c.push_reserved.new.self.items c.find_or_add.new.keys.keys (items_of groups) (items_of c.push_to.new.groups.items) c.args.s.now c.key_of-key.result c.in_ok-index.index c.of-numbers.result
    c.key_of-key.ensures.bounds c.key_of-key.ensures.value c.in_ok-index.ensures.at (rw length-map c.in_ok-index.ensures.inside) c.of-numbers.ensures (rw c.try_reserve.ensures.items at c.push_reserved.ensures.items) c.in_ok-push_to.ensures.pushed are

pub returns-clause-answer : goal.returns-clause-answer
returns-clause-answer c =
    let are = c.find_or_add.ensures.indexed c.args.states.now.items c.requires in
    let covered = answer-covered c.args.states.now.items c.find_or_add.new.keys.keys c.find_or_add.new.groups.items c.args.s.now c.key_of-key.result c.in_ok-index.index c.index.result.now c.deref.result.now c.of-numbers.result false
    c.key_of-key.ensures.bounds c.key_of-key.ensures.value c.in_ok-index.ensures.at c.in_ok-index.ensures.inside c.index.ensures c.deref.ensures.value c.of-numbers.ensures c.if-is_reached.ensures are in
    ap not covered
