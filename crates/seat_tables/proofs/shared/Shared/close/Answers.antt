use Rattle.std.proofs.Common.{◌∙◌, ap, subst, [], ◌∷◌}
use Rattle.std.specs.Slots.{slots_items}
use Rattle.race_core.specs.Sound.{Sound}
use Rattle.seat_tables.proofs.Keeps.{ended, ended-seen}
use Rattle.seat_tables.proofs.shared.Shared.close.Goals as goal

pub invariant_of-result : goal.invariant_of-result
invariant_of-result g c = (c.close_with.ensures.values.0, c.close_with.ensures.counts.1 ∙ c.self.invariant.2)

pub returns-clause-sound : goal.returns-clause-sound
returns-clause-sound g c = let last = c.close_with.ensures.values.2 in let s = last.0 in let is = c.self.invariant.0 ∙ ap (λ b. b.truth) c.self.view_is in
    let sound = ended g.T.Truth.size g.T.Truth.entry g.T.Truth.reached c.self.inside.table.shared.key s.words _ s.views _ c.seat.inside.token.me.0 last.1.0 last.1.1 last.2 in
    subst (λ t. Sound g.T.Truth.size g.T.Truth.entry g.T.Truth.reached t (slots_items c.close_with.result.words) (c.args.seat.view ∷ [])) is
    (subst (λ v. Sound g.T.Truth.size g.T.Truth.entry g.T.Truth.reached c.self.inside.table.shared.key (slots_items c.close_with.result.words) (v ∷ [])) (ap (λ s. s.view) c.seat.view_is) sound)

pub returns-clause-seen : goal.returns-clause-seen
returns-clause-seen g c = ended-seen g.T.Truth.size g.T.Truth.entry g.T.Truth.reached c.args.self.truth _ c.args.seat.view (returns-clause-sound g c) c.requires.2
