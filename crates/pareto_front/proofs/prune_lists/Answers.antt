use Rattle.std.proofs.Common.{◌≡◌, ◌∙◌, sym, refl, ℕ, List, Bool, Vec, Global, IfOk, Result, map, length, ap, subst}
use Rattle.std.specs.List.{AllZip, range_with_len}
use Rattle.rayon.proofs.ListFacts.{IfOk-then}
use Rattle.action_table.specs.declared.memory.WantMemory.{WantMemory}
use Rattle.pareto_front.specs.declared.node.Node.{Node}
use Rattle.pareto_front.specs.declared.parts.Entry.{Entry}
use Rattle.pareto_front.specs.declared.piece.Piece.{Piece}
use Rattle.pareto_front.specs.Covers.{uncovered}
use Rattle.pareto_front.specs.Lists.{items_of}
use Rattle.pareto_front.specs.Parts.{AreParts, AreMarks, IsRun, Keeps, joined, marked_of, part_count, runs_of}
use Rattle.pareto_front.specs.Pieces.{nodes_in}
use Rattle.pareto_front.proofs.Joins.{parts-joined}
use Rattle.pareto_front.proofs.Merge.{keeps-items, marked-uncovered}
use Rattle.pareto_front.proofs.prune_lists.Goals as goal

pub returns : goal.returns
returns g c =
    let cut = c.in_ok-level.level in
    let pieces : List Piece = cut.pieces.items in
    let level : List Node = nodes_in pieces in
    let runs = c.in_ok-runs.runs.items in
    let kept = c.in_ok-kept.kept.items in
    let parts = map (joined (runs_of runs)) (range_with_len 0 (part_count (length level))) in
    let long : cut.len ≡ length level = c.in_ok-level.ensures.len in
    let divided = subst (λ (r : Result (Vec (Vec (Vec Entry Global) Global) Global) WantMemory). IfOk r (λ v. AllZip (λ (p : Piece) (run : Vec (Vec Entry Global) Global). IsRun (part_count cut.len) p (items_of run.items)) c.deref.result.now v.items)) c.in_ok-runs.was c.in_ok-divide.ensures in
    let are : AreParts level 0 (length level) parts =
    parts-joined level pieces runs refl c.in_ok-level.ensures.order
    (subst (λ (n : ℕ). AllZip (λ (p : Piece) (run : Vec (Vec Entry Global) Global). IsRun (part_count n) p (items_of run.items)) pieces runs) long (rw c.deref.ensures.value at divided)) in
    let got = subst (λ (r : Result (Vec (Vec ℕ Global) Global) WantMemory). IfOk r (λ v. AllZip (λ (g : ℕ) (y : Vec ℕ Global). Keeps (joined (runs_of c.deref-2.result.now) g) y.items) (range_with_len 0 c.part_count.result) v.items)) c.in_ok-kept.was c.in_ok-keep_all.ensures in
    let many : c.part_count.result ≡ part_count (length level) = c.part_count.ensures ∙ ap part_count long in
    let each = subst (λ (n : ℕ). AllZip (λ (g : ℕ) (y : Vec ℕ Global). Keeps (joined (runs_of runs) g) y.items) (range_with_len 0 n) kept) many (rw c.deref-2.ensures.value at got) in
    let all = keeps-items (joined (runs_of runs)) (range_with_len 0 (part_count (length level))) kept each in
    let marks : AreMarks (length level) (items_of kept) c.in_ok-marks.marks.items =
    subst (λ (n : ℕ). AreMarks n (items_of kept) c.in_ok-marks.marks.items) long (rw (sym c.deref-3.ensures.value) c.in_ok-marks.ensures) in
    IfOk-then c.keep_marked.result _ _ c.keep_marked.ensures (λ v h.
    h ∙ ap (λ (m : List Bool). marked_of m level) c.deref-4.ensures.value
    ∙ marked-uncovered level parts (items_of kept) c.in_ok-marks.marks.items are all marks ∙ ap uncovered c.in_ok-level.ensures.nodes)
