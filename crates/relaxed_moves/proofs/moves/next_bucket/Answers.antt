use Rattle.std.proofs.Common.{arith, ◌≤◌, ◌*◌, ◌-◌, ◌/◌, ℕ, nat_lt, ◌∙◌, sym, ap, subst}
use Rattle.craft_numbers.specs.Gains.{progress_gain_of}
use Rattle.craft_settings.specs.Ranges.{AreSettings}
use Rattle.relaxed_moves.specs.Moves.{RelaxedFields, unit_of}
use Rattle.relaxed_moves.proofs.Costs.{unit_positive, unit_high, stays}
use Rattle.relaxed_moves.proofs.Products.{bucket_times}
use Rattle.relaxed_moves.proofs.moves.next_bucket.Goals as goal

pub returns-then-progress-eq0-clause-value : goal.returns-then-progress-eq0-clause-value
returns-then-progress-eq0-clause-value c =
    let settings : AreSettings c.args.g.now = subst AreSettings c.g.view_is c.g.invariant in
    ap (λ (y : RelaxedFields). y.bucket) c.x.view_is
    ∙ sym (stays c.args.g.now.base_progress c.args.x.now.bucket (unit_of c.args.g.now c.args.grain) (nat_lt 0 c.args.x.now.veneration) c.args.x.now.muscle (unit_positive c.args.g.now c.args.grain settings c.requires.low))
    ∙ ap (λ (p : ℕ). (c.args.x.now.bucket * unit_of c.args.g.now c.args.grain - progress_gain_of c.args.g.now.base_progress p (nat_lt 0 c.args.x.now.veneration) c.args.x.now.muscle) / unit_of c.args.g.now c.args.grain) (sym c.if-progress-eq0.true)

pub overflow_mul-x-inside : goal.overflow_mul-x-inside
overflow_mul-x-inside c =
    let settings : AreSettings c.args.g.now = subst AreSettings c.g.view_is c.g.invariant in
    let bucket : c.x.inside.bucket ≤ 64 = omega (arith, ap (λ (y : RelaxedFields). y.bucket) c.x.view_is, c.requires.bucket, c.requires.high) in
    let small : c.args.unit ≤ 100000 = omega (arith, c.requires.unit, unit_high c.args.g.now c.args.grain settings c.requires.low, settings.progress.high) in
    omega (arith, bucket_times c.x.inside.bucket c.args.unit bucket small)

pub nonzero_div-result : goal.nonzero_div-result
nonzero_div-result c =
    let settings : AreSettings c.args.g.now = subst AreSettings c.g.view_is c.g.invariant in
    omega (arith, c.requires.unit, unit_positive c.args.g.now c.args.grain settings c.requires.low)
