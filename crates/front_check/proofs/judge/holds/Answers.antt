use Rattle.std.proofs.Common.{◌∙◌, sym, ap}
use Rattle.prefix_fronts.specs.Prefix.{Prefix}
use Rattle.front_check.proofs.Asking.{may-ask}
use Rattle.front_check.proofs.judge.holds.Goals as goal

pub limit-limit-requires : goal.limit-limit-requires
limit-limit-requires g c = may-ask _ c.args.claimed.now c.args.p.now _ c.requires.bounds c.requires.p (ap (λ (q : Prefix). q.state) (sym c.p.view_is))

pub limit-limit-requires-in-Late : goal.limit-limit-requires-in-Late
limit-limit-requires-in-Late g c = may-ask _ c.args.claimed.now c.args.p.now _ c.requires.bounds c.requires.p (ap (λ (q : Prefix). q.state) (sym c.p.view_is))

pub within-within-requires : goal.within-within-requires
within-within-requires g c = may-ask _ c.args.claimed.now c.args.p.now _ (c.limit-limit-in-Late.ensures.still ∙ c.requires.bounds) c.requires.p (ap (λ (q : Prefix). q.state) (sym c.p.view_is))
