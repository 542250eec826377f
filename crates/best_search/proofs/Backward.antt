-- From the last step of a run that completes back to its first state.
use Rattle.std.proofs.Common.{ℕ, suc, true, false, List, [], ◌∷◌, Some, ◌≡◌, ◌+◌, length, refl, sym, subst}
use Rattle.plain_lemmas.proofs.Tests.{some_same}
use Rattle.action_table.specs.declared.action.Action.{Action}
use Rattle.craft_state.specs.Craft.{StateFields}
use Rattle.craft_settings.specs.Ranges.{SettingsFields}
use Rattle.step_rules.specs.Legality.{is_legal, is_over, is_complete, IsWithin}
use Rattle.step_rules.specs.Run.{run_of}
use Rattle.step_rules.specs.Step.{step_of}
use Rattle.step_rules.proofs.Bounds.{IsWithin-step}
use Rattle.admissible.specs.Laws.{GoesOn, Finishes}
use Rattle.admissible.proofs.Reached.{ran, complete_over, over-run}
use Rattle.plain_lemmas.proofs.Numbers.{one_more}

-- what holds where a step completes the craft, and before each step that goes on where it holds after it
pub record HoldsBack (g : SettingsFields) (last : StateFields) (P : ℕ → StateFields → Type 0) : Type 0 where
  pub ends : (j : ℕ) (s : StateFields) (a : Action) → is_over g s ≡ false → Finishes g s a → step_of g s a ≡ last → P (j + 1) s
  pub next : (j : ℕ) (s : StateFields) (a : Action) → is_over g s ≡ false → GoesOn g s a → P j (step_of g s a) → P (j + 1) s

-- it holds where a run begins, with as many steps left
pub back : (g : SettingsFields) (last : StateFields) (P : ℕ → StateFields → Type 0) → HoldsBack g last P → is_complete g last ≡ true →
    (s : StateFields) (m : List Action) → IsWithin g s → is_over g s ≡ false → run_of g s m ≡ Some last → P (length m) s
back g last P holds done s [] within live h =
    let e : s ≡ last = some_same s last h in
    absurd (complete_over (is_complete g s) _ (subst (λ u. is_complete g u ≡ true) (sym e) done) live)
back g last P holds done s (a ∷ m) within live h =
    let parts = ran (is_legal g s a) (run_of g (step_of g s a) m) last h in
    let rest = back g last P holds done (step_of g s a) m (IsWithin-step g s a within) in
    elim (is_over g (step_of g s a)) as (λ b. is_over g (step_of g s a) ≡ b → P (suc (length m)) s) [
      | true ↦ λ over.
          let e : step_of g s a ≡ last = over-run g (step_of g s a) last m over parts.1 in
          subst (λ (n : ℕ). P n s) (one_more (length m))
          (holds.ends (length m) s a live (record { within = within; legal = parts.0; done = subst (λ u. is_complete g u ≡ true) (sym e) done }) e)
      | false ↦ λ going.
          subst (λ (n : ℕ). P n s) (one_more (length m))
          (holds.next (length m) s a live (record { within = within; legal = parts.0; live = going }) (rest going parts.1))
    ] refl
