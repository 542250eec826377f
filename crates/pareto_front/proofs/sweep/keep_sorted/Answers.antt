use Rattle.std.proofs.Common.{◌≡◌, ◌+◌, rules, get_or, sym, subst, arith}
use Rattle.std.proofs.lemmas.List.{get_or_default}
use Rattle.pareto_front.specs.declared.parts.Entry.{Entry}
use Rattle.pareto_front.proofs.Marks.{blank_entry}
use Rattle.pareto_front.proofs.Sweeps.{Swept, swept-start, swept-turned, swept-more, swept-keeps}
use Rattle.pareto_front.proofs.sweep.keep_sorted.Goals as goal

pub loop-entry-init : goal.loop-entry-init
loop-entry-init c = rw (c.new-columns.ensures, c.new-kept.ensures.items) (swept-start c.args.sorted.now)

pub loop-entry-preserved : goal.loop-entry-preserved
loop-entry-preserved c =
    let sorted = c.args.sorted.now in
    let i = c.loop-entry.entry-index in
    let x : Entry = get_or sorted i blank_entry in
    let is : x ≡ get_or sorted i x = get_or_default sorted i blank_entry x (search rules) in
    let turned : Swept sorted i x.key c.turn_to-key.new.columns c.loop-entry.kept.items =
    swept-turned sorted i c.loop-entry.key x c.loop-entry.columns c.turn_to-key.new.columns c.loop-entry.kept.items c.requires (search rules) is c.turn_to-key.ensures.columns c.loop-entry.invariant in
    let more : Swept sorted (i + 1) x.key c.try_entry.new.columns c.try_entry.new.kept.items =
    swept-more sorted i x c.turn_to-key.new.columns c.try_entry.new.columns c.loop-entry.kept.items c.try_entry.new.kept.items c.requires (search rules) is turned c.in_ok-try_entry.ensures in
    subst (λ k. Swept sorted (i + 1) k c.try_entry.new.columns c.try_entry.new.kept.items) (sym c.turn_to-key.ensures.key) more

pub returns : goal.returns
returns c = swept-keeps c.args.sorted.now c.loop-entry.entry-index c.loop-entry.key c.loop-entry.columns c.loop-entry.kept.items (omega arith) c.loop-entry.invariant
