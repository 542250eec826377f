use Rattle.std.proofs.Common.{rules, ◌≡◌, false}
use Rattle.macro_order.specs.Order.{NothingCompletes}
use Rattle.stat_sweep.specs.declared.TheConstants.{MOST_BASE}
use Rattle.stat_sweep.specs.declared.swept.Swept.TheVariants.{Nothing, Short}
use Rattle.stat_sweep.specs.Halving.{IsTried}
use Rattle.stat_sweep.specs.Sweeping.{IsSwept}
use Rattle.stat_sweep.proofs.Enough.{nothing-exact, short-exact, least-exact, short-swept, IfOk-more}
use Rattle.stat_sweep.proofs.sweep.Goals as goal
use Rattle.plain_lemmas.proofs.Tests.{not_true}

pub returns-in_default-clause-least : goal.returns-in_default-clause-least
returns-in_default-clause-least g c =
    let nothing : NothingCompletes c.args.g.now = rw c.in_default.is at c.in_ok-most.ensures.best in
    least-exact c.args.g.now Nothing nothing

pub returns-then-not-most-clause-swept : goal.returns-then-not-most-clause-swept
returns-then-not-most-clause-swept g c =
    let tried : IsTried c.args.g.now MOST_BASE c.in-Some.most = rw c.in-Some.is at c.in_ok-most.ensures.best in
    let short : c.in-Some.most.is_enough ≡ false = search (rules, not_true) in
    short-swept c.args.g.now c.in-Some.most tried short

pub returns-then-not-most-clause-nothing : goal.returns-then-not-most-clause-nothing
returns-then-not-most-clause-nothing g c =
    let tried : IsTried c.args.g.now MOST_BASE c.in-Some.most = rw c.in-Some.is at c.in_ok-most.ensures.best in
    let short : c.in-Some.most.is_enough ≡ false = search (rules, not_true) in
    nothing-exact c.args.g.now (Short c.in-Some.most.plan) (short-swept c.args.g.now c.in-Some.most tried short)

pub returns-then-not-most-clause-short : goal.returns-then-not-most-clause-short
returns-then-not-most-clause-short g c =
    let tried : IsTried c.args.g.now MOST_BASE c.in-Some.most = rw c.in-Some.is at c.in_ok-most.ensures.best in
    let short : c.in-Some.most.is_enough ≡ false = search (rules, not_true) in
    short-exact c.args.g.now (Short c.in-Some.most.plan) (short-swept c.args.g.now c.in-Some.most tried short)

pub returns-clause-nothing : goal.returns-clause-nothing
returns-clause-nothing g c = IfOk-more c.halve.result (IsSwept c.args.g.now) _ c.halve.ensures.swept (nothing-exact c.args.g.now)

pub returns-clause-least : goal.returns-clause-least
returns-clause-least g c = IfOk-more c.halve.result (IsSwept c.args.g.now) _ c.halve.ensures.swept (least-exact c.args.g.now)
