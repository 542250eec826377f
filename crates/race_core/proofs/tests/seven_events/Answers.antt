use Rattle.std.proofs.Common.{◌≡◌, ◌∷◌, [], IfOk, Result, Ok, Err, MatchResult, Some, false, List, sym, refl, subst}
use Rattle.race_core.proofs.Outcomes.{where-ok}
use Rattle.race_core.specs.declared.entry.Entry.TheVariants.{NoList, Best}
use Rattle.race_core.specs.declared.event.Event.{Event}
use Rattle.race_core.specs.declared.event.Event.TheVariants.{Load, Put, See, Offer, Split, Join}
use Rattle.race_core.specs.Events.{live_at, after_all}
use Rattle.race_core.proofs.tests.seven_events.Goals as goal

abbrev events : List Event
events = Load 0 1 ∷ Put 0 1 (Best 0) ∷ Offer 0 5 ∷ Split 0 ∷ See 1 ∷ Put 1 0 NoList ∷ Join 0 1 ∷ []

pub returns-clause-words : goal.returns-clause-words
returns-clause-words c = where-ok (λ core. core.words ≡ 6 ∷ 1 ∷ 2 ∷ 0 ∷ []) c.run.result _ _ _ c.run.ensures.done
    (subst (λ core. (after_all (λ _. 3) core events).words ≡ 6 ∷ 1 ∷ 2 ∷ 0 ∷ []) (sym c.requires) refl)

pub returns-clause-seat : goal.returns-clause-seat
returns-clause-seat c = where-ok (λ core. live_at core.views 0 ≡ Some record { truth = Some c.args.core.now.truth; seen = 1 ∷ 1 ∷ 0 ∷ []; floor = Some 5; joined = false; steps = 5; last = Some (0, 6) }) c.run.result _ _ _ c.run.ensures.done
    (subst (λ core. live_at (after_all (λ _. 3) core events).views 0 ≡ Some record { truth = Some c.args.core.now.truth; seen = 1 ∷ 1 ∷ 0 ∷ []; floor = Some 5; joined = false; steps = 5; last = Some (0, 6) }) (sym c.requires) refl)
