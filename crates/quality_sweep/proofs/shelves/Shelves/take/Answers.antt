use Rattle.std.proofs.Common.{◌≡◌, [], List, set, ap, subst}
use Rattle.pareto_front.specs.Lists.{items_of}
use Rattle.quality_sweep.specs.declared.candidate.Candidate.{Candidate}
use Rattle.quality_sweep.specs.Shelves.{ShelvesFields, cleared}
use Rattle.quality_sweep.proofs.Putting.{items-cleared}
use Rattle.quality_sweep.proofs.shelves.Shelves.take.Goals as goal

pub returns-clause-rest : goal.returns-clause-rest
returns-clause-rest c =
    let same : (record { width = c.self.inside.width; lists = items_of c.self.inside.lists.items }) ≡ c.args.self.now = c.self.view_is in
    let none : c.replace.new.dest.items ≡ [] = rw c.replace.ensures.after c.new.ensures.items in
    subst (λ (s : ShelvesFields). (record { width = c.self.inside.width; lists = items_of (set c.self.inside.lists.items c.args.place c.replace.new.dest) }) ≡ cleared s c.args.place) same
    (ap (λ (l : List (List Candidate)). record { width = c.self.inside.width; lists = l }) (items-cleared c.self.inside.lists.items c.args.place c.replace.new.dest none))
