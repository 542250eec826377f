use Rattle.std.proofs.Common.{◌≡◌, sym, subst, Some, None, arith, get_or}
use Rattle.race_core.specs.Events.{live_at}
use Rattle.race_core.specs.Seats.{seat_view}
use Rattle.race_core.proofs.Kept.{live-past, live-some, live-none}
use Rattle.race_core.proofs.machine.Core.live.Goals as goal

pub returns-then-seat-len : goal.returns-then-seat-len
returns-then-seat-len g c = subst (λ b. live_at b.views c.args.seat ≡ None) c.self.view_is (live-past c.self.inside.truth c.self.inside.seats.items c.args.seat (omega arith))

pub returns-in-Some : goal.returns-in-Some
returns-in-Some g c = subst (λ b. live_at b.views c.args.seat ≡ Some (seat_view b.truth c.in-Some.state)) c.self.view_is
    (live-some c.self.inside.truth c.self.inside.seats.items c.args.seat c.in-Some.state (omega arith)
    (sym (subst (λ x. x ≡ get_or c.self.inside.seats.items c.args.seat x) c.in-Some.is c.index.ensures)))

pub returns-in-None : goal.returns-in-None
returns-in-None g c = subst (λ b. live_at b.views c.args.seat ≡ None) c.self.view_is
    (live-none c.self.inside.truth c.self.inside.seats.items c.args.seat (sym (subst (λ x. x ≡ get_or c.self.inside.seats.items c.args.seat x) c.in-None.is c.index.ensures)))
