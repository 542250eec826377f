-- The best list from the state after what is done is the best list after it.
use Rattle.std.proofs.Common.{◌≡◌, ◌++◌, List, [], Option, Some, None, subst}
use Rattle.std.specs.Option.{MatchOption}
use Rattle.action_table.specs.declared.action.Action.{Action}
use Rattle.craft_state.specs.Craft.{StateFields}
use Rattle.craft_settings.specs.Ranges.{SettingsFields}
use Rattle.step_rules.specs.Legality.{start_of}
use Rattle.step_rules.specs.Run.{run_of}
use Rattle.macro_order.specs.Order.{IsBest, IsBestAfter, IsBestFrom, NothingCompletes, NothingCompletesAfter, NothingCompletesFrom}
use Rattle.macro_order.proofs.Continuation.{best-after, nothing-after, rest-is-best}

-- what a search from a state has found, of things that are seen as lists
abbrev pub IsFoundFrom : {V : Type 0} → (V → List Action) → SettingsFields → StateFields → Option V → Type 0
IsFoundFrom items g s r = MatchOption r (NothingCompletesFrom g s) (λ m. IsBestFrom g s (items m))

module _ {V : Type 0} (items : V → List Action) (g : SettingsFields) (done : List Action) (s : StateFields) (ran : run_of g (start_of g) done ≡ Some s) where
  pub after-it : (r : Option V) → IsFoundFrom items g s r → MatchOption r (NothingCompletesAfter g done) (λ m. IsBestAfter g done (items m))
  after-it None nothing = nothing-after g done s ran nothing
  after-it (Some m) best = best-after g done (items m) s ran best

  pub rest-of : (r : Option V) (rest : List Action) → IsFoundFrom items g s r → IsBest g (done ++ rest) → MatchOption r ⊥ (λ m. items m ≡ rest)
  rest-of None rest nothing whole = let none = nothing-after g done s ran nothing rest in let some = whole.completes in cc
  rest-of (Some m) rest best whole = rest-is-best g done rest (items m) whole (best-after g done (items m) s ran best)

  pub whole-of : (r : Option V) → IsFoundFrom items g s r → done ≡ [] → MatchOption r (NothingCompletes g) (λ m. IsBest g (items m))
  whole-of r found none = subst (λ (t : StateFields). IsFoundFrom items g t r) same found
    where
      ran_none : run_of g (start_of g) [] ≡ Some s
      ran_none = subst (λ (a : List Action). run_of g (start_of g) a ≡ Some s) none ran

      same : s ≡ start_of g
      same = cc
