use Rattle.std.specs.List.{list_any}
use Rattle.std.proofs.Common.{nat_eq}
use Rattle.pareto_front.proofs.Indexed.{indexed-new, keys-new}
use Rattle.pareto_front.proofs.kept.find_or_add.Goals as goal

pub returns-then-added-clause-indexed : goal.returns-then-added-clause-indexed
returns-then-added-clause-indexed c states are =
    let keys = c.args.keys.now.keys in
    let after = c.insert_full.new.self.keys in
    let groups = c.args.groups.now.items in
    let grown = keys-new keys after c.args.key (list_any (nat_eq c.args.key) keys) c.in_ok-index.added c.if-added.true c.in_ok-index.ensures.added c.in_ok-index.ensures.keys in
    indexed-new states keys after c.args.key groups c.push_reserved.new.self.items c.new.result grown (rw c.try_reserve.ensures.items at c.push_reserved.ensures.items) c.new.ensures.items are
