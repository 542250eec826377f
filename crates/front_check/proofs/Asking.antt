-- The limits of a prefix may be asked for.
use Rattle.std.proofs.Common.{◌≡◌, sym, subst}
use Rattle.craft_state.specs.Craft.{StateFields}
use Rattle.prefix_fronts.specs.Prefix.{Prefix}
use Rattle.admissible.proofs.Reached.{potential-reached}
use Rattle.front_check.specs.declared.judge.Claimed.{Claimed}
use Rattle.front_check.specs.Judging.{Bounds, bounds_of, MayAsk, IsBegun}

pub may-ask : (bounds : Bounds) (claimed : Claimed) (p : Prefix) (s : StateFields) → bounds ≡ bounds_of claimed → IsBegun claimed.g.now p → p.state ≡ s → MayAsk bounds s
may-ask bounds claimed p s same begun is =
    subst (λ (b : Bounds). MayAsk b s) (sym same)
    (subst (λ (t : StateFields). MayAsk (bounds_of claimed) t) is
    record { within = begun.within; potential = potential-reached claimed.g.now p.state p.actions begun.within.settings begun.ran })
