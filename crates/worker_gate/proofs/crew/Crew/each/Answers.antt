use Rattle.std.proofs.Common.{ap, arith, length, List, subst, sym, ◌∙◌}
use Rattle.std.specs.Fork.{ChangesEach}
use Rattle.worker_gate.proofs.Moved.{whole}
use Rattle.worker_gate.proofs.crew.Crew.each.Goals as goal

pub returns-clause-worked : goal.returns-clause-worked
returns-clause-worked g c =
    let inside = c.self.inside.workers in
    let lent = c.deref_mut.ensures.value in
    let same = c.each.auto.workers in
    let left = whole inside.len inside.items c.each.new.workers (omega (arith, inside.ok.0)) (omega (arith, same, ap length lent)) in
    subst (λ (l : List g.row.W.Denot). ChangesEach g.F.Fn c.args.work c.args.self.now.workers l) (sym left)
    (subst (λ (l : List g.row.W.Denot). ChangesEach g.F.Fn c.args.work l c.each.new.workers) (lent ∙ ap (λ v. v.workers) c.self.view_is) c.each.ensures.worked)
