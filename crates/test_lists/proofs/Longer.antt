-- A legal action more.
use Rattle.std.proofs.Common.{ℕ, zero, suc, List, Some, true, ◌≡◌, ◌∷◌, ◌++◌, [], All, arith}
use Rattle.std.proofs.lemmas.List.Elements.{All-append}
use Rattle.step_rules.proofs.Runs.{run_of-snoc}
use Rattle.action_table.specs.declared.action.Action.{Action}
use Rattle.craft_state.specs.Craft.{StateFields}
use Rattle.craft_settings.specs.Ranges.{SettingsFields}
use Rattle.step_rules.specs.Legality.{IsWithin, is_legal}
use Rattle.step_rules.specs.Step.{step_of}
use Rattle.step_rules.specs.Run.{run_of}
use Rattle.test_lists.specs.declared.Listed.{Listed}
use Rattle.test_lists.specs.Lists.{IsListed}

pub listed_longer : (g : SettingsFields) (from s : StateFields) (m longer : List Action) (a : Action) →
    run_of g from m ≡ Some s → is_legal g s a ≡ true → longer ≡ m ++ a ∷ [] → run_of g from longer ≡ Some (step_of g s a)
listed_longer g from s m longer a ran legal same = rw same (run_of-snoc g from s m a ran legal)

-- what holds of each element of a list and of one more
pub All-snoc : {X : Type 0} (P : X → Type 0) (xs : List X) (x : X) → All P xs → P x → All P (xs ++ x ∷ [])
All-snoc P xs x all here = All-append P xs (x ∷ []) all (only P x here)
  where
    only : {X : Type 0} (P : X → Type 0) (x : X) → P x → All P (x ∷ [])
    only P x here zero d inside = here
    only P x here (suc k) d inside = absurd (omega (arith, inside))

-- the lists of a length are those of a craft
pub all_within : (g : SettingsFields) (from : StateFields) (n : ℕ) (lists : List Listed) →
    All (IsListed g from n) lists → All (λ l. IsWithin g l.state) lists
all_within g from n lists listed k d inside = (listed k d inside).within
