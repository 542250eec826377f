use Rattle.std.proofs.Common.{◌≡◌, []}
use Rattle.std.proofs.lemmas.Slice.Zip.{AllZip-long}
use Rattle.prefix_fronts.specs.Prefix.{completions}
use Rattle.front_walk.specs.Walking.{IsSoonestCompletion}
use Rattle.best_search.specs.Looking.{test_of}
use Rattle.best_search.proofs.Tabled.{limits-of, sought}
use Rattle.best_search.proofs.Taking.{best-found, none-found, takes-more}
use Rattle.best_search.proofs.lengths.best_at.Goals as goal

pub invariant_of-walk-clause-limits : goal.invariant_of-walk-clause-limits
invariant_of-walk-clause-limits g c =
    let a = c.args.aim.now in
    limits-of a.goal.g.now a.goal.target a.tables.now a.goal.filled.now a.of a.goal.tables

pub returns-in_err-found-clause-as_many : goal.returns-in_err-found-clause-as_many
returns-in_err-found-clause-as_many g c = AllZip-long _ _ _ c.best_of.ensures.still

pub returns-in-Some-clause-as_many : goal.returns-in-Some-clause-as_many
returns-in-Some-clause-as_many g c = AllZip-long _ _ _ c.best_of.ensures.still

pub returns-in-None-clause-as_many : goal.returns-in-None-clause-as_many
returns-in-None-clause-as_many g c = AllZip-long _ _ _ c.best_of.ensures.still

pub returns-in-Some-clause-best : goal.returns-in-Some-clause-best
returns-in-Some-clause-best g c =
    let a = c.args.aim.now in
    let goal = a.goal in
    let passes = test_of goal.target a.tables.now goal.filled.now in
    let found : IsSoonestCompletion goal.g.now goal.from.now goal.target passes c.args.n c.in-Some.found.actions.items = rw c.in-Some.is at c.in_ok-found.ensures.best in
    best-found goal.g.now goal.from.now goal.target passes c.args.n c.in-Some.found.actions.items
    (sought goal.g.now goal.from.now goal.target a.tables.now goal.filled.now goal.open goal.greatest a.of goal.tables) c.requires.some c.requires.low found

pub returns-in-None-clause-best : goal.returns-in-None-clause-best
returns-in-None-clause-best g c =
    let a = c.args.aim.now in
    let goal = a.goal in
    let passes = test_of goal.target a.tables.now goal.filled.now in
    let none : completions goal.g.now goal.from.now goal.target passes c.args.n ≡ [] = rw c.in-None.is at c.in_ok-found.ensures.best in
    takes-more goal.g.now goal.from.now goal.target c.args.n c.requires.low
    (none-found goal.g.now goal.from.now goal.target passes c.args.n
    (sought goal.g.now goal.from.now goal.target a.tables.now goal.filled.now goal.open goal.greatest a.of goal.tables) none)
