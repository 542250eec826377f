use Rattle.std.proofs.Common.{arith, ◌+◌, ◌<◌, ◌^◌, sym, subst}
use Rattle.relaxed_moves.proofs.Order.{AreRelaxed-relax}
use Rattle.relaxed_moves.specs.Moves.{AreRelaxed}
use Rattle.table_bound.proofs.Fits.{gain_fits}
use Rattle.table_bound.proofs.limits.limit_within.Goals as goal

pub overflow_add-s-inside : goal.overflow_add-s-inside
overflow_add-s-inside g c =
    let truth = c.args.shared.now.truth in
    let laws = g.met.T.Bound g.world.𝓛 g.world.𝓜 g.world.𝓡 ((λ s x. x), (λ x. x), (λ x. x), λ x. x) in
    let fits : c.s.inside.quality + c.in-Some.gain < 2 ^ 32 =
    gain_fits (g.T.Bound.rules truth) c.args.budget c.in-Some.gain c.s.inside.quality c.relax_by-x.result (laws.rules_hold truth)
    (subst AreRelaxed (sym c.relax_by-x.ensures.value) (AreRelaxed-relax _ _ _ c.requires.within.effects)) c.requires.budget c.s.invariant.quality (sym c.in-Some.ensures.value) in
    record { fits = omega (arith, fits) }
