use Rattle.std.proofs.Common.{sym}
use Rattle.plain_lemmas.proofs.Places.{Contains-Among}
use Rattle.prefix_fronts.proofs.Dominated.{never-dominated, best-survives}
use Rattle.prefix_fronts.proofs.dominated_law.Goals as goal

pub returns-clause-none : goal.returns-clause-none
returns-clause-none c g s m k p q is_open best h cut =
    never-dominated g s m k p q is_open best (Contains-Among _ p h.first) (Contains-Among _ q h.second) (sym cut) h.over

pub returns-clause-each : goal.returns-clause-each
returns-clause-each c g s m k is_open best below = best-survives g s m k is_open best below
