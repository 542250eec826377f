use Rattle.std.proofs.Common.{◌+◌, rules, get_or, IsPermutation, arith}
use Rattle.std.proofs.lemmas.List.Sorted.{answers_always}
use Rattle.std.proofs.lemmas.Result.{IfOk-weaker}
use Rattle.pareto_front.specs.declared.parts.Entry.{Entry}
use Rattle.pareto_front.specs.Parts.{AreSorted, Keeps}
use Rattle.pareto_front.proofs.Sweeps.{sorted-by, triple_before, keeps-permuted}
use Rattle.pareto_front.proofs.sweep.keep.Goals as goal

pub keep_sorted-requires : goal.keep_sorted-requires
keep_sorted-requires c =
    let items = c.sort_unstable_by_key.new.self.items in
    let order : AreSorted items = sorted-by items (λ k d below.
    let a = get_or items (k + 1) d in
    let b = get_or items k d in
    triple_before a.key b.key a.seconds b.seconds a.place b.place
    (c.sort_unstable_by_key.ensures.sorted (λ (e : Entry). (e.key, e.seconds, e.place)) (answers_always _ _ _ (λ f a r g h. search rules)) k d (omega arith) below)) in
    rw c.deref.ensures.value order

pub returns : goal.returns
returns c =
    let moved : IsPermutation c.args.part.items c.deref.result.now = rw c.deref.ensures.value c.sort_unstable_by_key.ensures.permutation in
    IfOk-weaker c.keep_sorted.result (λ kept. Keeps c.deref.result.now kept.items) (λ kept. Keeps c.args.part.items kept.items)
    (λ kept keeps. keeps-permuted c.args.part.items c.deref.result.now kept.items moved keeps) c.keep_sorted.ensures
