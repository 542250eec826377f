use Rattle.std.proofs.Common.{sym, ap, ◌∙◌, subst, Some, slice_set}
use Rattle.std.proofs.lemmas.List.{map-set}
use Rattle.race_core.specs.Events.{set_view, set_word}
use Rattle.race_core.specs.Sound.{Sound}
use Rattle.race_core.specs.Seats.{seat_view, view_of}
use Rattle.race_core.proofs.machine.Core.settle_word.Goals as goal

pub invariant_of-self : goal.invariant_of-self
invariant_of-self g c = let t = c.self.inside.truth in
    subst (λ vs. Sound g.T.Truth.size g.T.Truth.entry g.T.Truth.reached t (slice_set c.self.inside.words.items c.args.at c.args.word) vs) (sym (map-set (view_of t) c.self.inside.seats.items c.args.seat (Some c.args.state)))
    (subst (λ b. Sound g.T.Truth.size g.T.Truth.entry g.T.Truth.reached b.truth (slice_set b.words c.args.at c.args.word) (slice_set b.views c.args.seat (seat_view b.truth c.args.state))) (sym c.self.view_is) c.requires.sound)

pub returns : goal.returns
returns g c = let t = c.self.inside.truth in
    ap (λ vs. record { truth = t; words = slice_set c.self.inside.words.items c.args.at c.args.word; views = vs }) (map-set (view_of t) c.self.inside.seats.items c.args.seat (Some c.args.state))
    ∙ ap (λ b. set_view c.args.seat (seat_view b.truth c.args.state) (set_word c.args.at c.args.word b)) c.self.view_is
