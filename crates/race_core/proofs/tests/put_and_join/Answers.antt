use Rattle.std.proofs.Common.{◌≡◌, ◌∷◌, [], IfOk, Result, Ok, Err, MatchResult, Some, None, false, List, sym, refl, subst}
use Rattle.race_core.proofs.Outcomes.{where-ok}
use Rattle.race_core.specs.declared.entry.Entry.TheVariants.{Best}
use Rattle.race_core.specs.declared.event.Event.{Event}
use Rattle.race_core.specs.declared.event.Event.TheVariants.{Load, Put, Split, Join}
use Rattle.race_core.specs.Events.{live_at, after_all}
use Rattle.race_core.proofs.tests.put_and_join.Goals as goal

abbrev events : List Event
events = Load 0 7 ∷ Split 0 ∷ Put 1 7 (Best 0) ∷ Join 0 1 ∷ Load 1 7 ∷ []

pub returns-clause-seat : goal.returns-clause-seat
returns-clause-seat c = where-ok (λ core. live_at core.views 0 ≡ Some record { truth = Some c.args.core.now.truth; seen = 7 ∷ []; floor = None; joined = false; steps = 3; last = Some (0, 0) }) c.run.result _ _ _ c.run.ensures.done
    (subst (λ core. live_at (after_all (λ _. 2200) core events).views 0 ≡ Some record { truth = Some c.args.core.now.truth; seen = 7 ∷ []; floor = None; joined = false; steps = 3; last = Some (0, 0) }) (sym c.requires) refl)

pub returns-clause-gone : goal.returns-clause-gone
returns-clause-gone c = where-ok (λ core. live_at core.views 1 ≡ None) c.run.result _ _ _ c.run.ensures.done
    (subst (λ core. live_at (after_all (λ _. 2200) core events).views 1 ≡ None) (sym c.requires) refl)
