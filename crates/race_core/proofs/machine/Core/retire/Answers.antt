use Rattle.std.proofs.Common.{sym, ap, ◌∙◌, subst, None}
use Rattle.std.proofs.lemmas.List.{map-set}
use Rattle.race_core.specs.Events.{set_view, gone}
use Rattle.race_core.specs.Sound.{Sound}
use Rattle.race_core.specs.Seats.{view_of, views_of}
use Rattle.race_core.proofs.Steps.{sound-view, knows-gone}
use Rattle.race_core.proofs.machine.Core.retire.Goals as goal

pub invariant_of-self : goal.invariant_of-self
invariant_of-self g c = let t = c.self.inside.truth in let ws = c.self.inside.words.items in let vs = views_of t c.self.inside.seats.items in
    subst (λ vs. Sound g.T.Truth.size g.T.Truth.entry g.T.Truth.reached t ws vs) (sym (map-set (view_of t) c.self.inside.seats.items c.args.seat None))
    (sound-view g.T.Truth.size g.T.Truth.entry g.T.Truth.reached t ws vs c.self.invariant c.args.seat gone (knows-gone g.T.Truth.size g.T.Truth.entry g.T.Truth.reached t ws))

pub returns : goal.returns
returns g c = let t = c.self.inside.truth in
    ap (λ vs. record { truth = t; words = c.self.inside.words.items; views = vs }) (map-set (view_of t) c.self.inside.seats.items c.args.seat None)
    ∙ ap (λ b. set_view c.args.seat gone b) c.self.view_is
