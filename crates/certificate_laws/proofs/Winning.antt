-- Which macros the claimed one wins over.
use Rattle.std.proofs.Common.{◌≡◌, sym, ℕ, ◌<◌, ◌≤◌, ◌⊎◌, true, inl, inr, Option, List, [], ◌∷◌, length, Some, None, arith, refl, subst}
use Rattle.plain_lemmas.proofs.Tests.{lt_from, le_from}
use Rattle.action_table.specs.declared.action.Action.{Action}
use Rattle.craft_state.specs.Craft.{StateFields}
use Rattle.craft_settings.specs.Ranges.{SettingsFields}
use Rattle.step_rules.specs.Legality.{is_legal, is_over}
use Rattle.step_rules.specs.Step.{step_of}
use Rattle.step_rules.specs.Run.{run_of}
use Rattle.step_rules.specs.Macro.{counted}
use Rattle.macro_order.specs.declared.scores.Score.{Score}
use Rattle.macro_order.specs.Order.{is_better}
use Rattle.macro_order.proofs.Transitive.{better-transitive}
use Rattle.relaxed_moves.specs.Optimum.{option_le}
use Rattle.prefix_fronts.proofs.Best.{better_quality, better_steps, at_most, no_legal_when_over}
use Rattle.prefix_fronts.proofs.Replaced.{ends_with}
use Rattle.admissible.proofs.Reached.{ran}
use Rattle.certificate_laws.specs.Claims.{Claim, is_below, is_at_most}

-- the claimed macro is this list, or better
abbrev pub Wins : Claim → List Action → Score → Type 0
Wins claim n score = (claim.actions ≡ n) ⊎ (is_better claim.score claim.actions score n ≡ true)

-- a craft that is over takes no action more
pub no-more : (g : SettingsFields) (s t : StateFields) (r : List Action) → is_over g s ≡ true → run_of g s r ≡ Some t → r ≡ []
no-more g s t [] over h = refl
no-more g s t (a ∷ r) over h = let parts = ran (is_legal g s a) (run_of g (step_of g s a) r) t h in absurd (no_legal_when_over g s a over parts.0)

pub below-clash : (limit : Option ℕ) (least most : ℕ) → is_below limit most ≡ true → option_le (Some least) limit → least < most
below-clash None least most h k = absurd k
below-clash (Some limit) least most h k = omega (arith, lt_from limit most h, k)

pub at-most : (limit : Option ℕ) (least most : ℕ) → is_at_most limit most ≡ true → option_le (Some least) limit → least ≤ most
at-most None least most h k = absurd k
at-most (Some limit) least most h k = omega (arith, le_from limit most h, k)

-- more quality
pub wins-quality : (claim : Claim) (n : List Action) (last : StateFields) → counted claim.g last < claim.score.quality → Wins claim n (ends_with claim.g n last)
wins-quality claim n last less = inr (better_quality claim.score.quality (counted claim.g last) _ less)

-- as much in fewer steps
pub wins-steps : (claim : Claim) (n : List Action) (last : StateFields) → counted claim.g last ≤ claim.score.quality → claim.score.steps < length n → Wins claim n (ends_with claim.g n last)
wins-steps claim n last most fewer = elim (at_most _ _ most) [
  | inl less ↦ wins-quality claim n last less
  | inr same ↦ inr (better_steps claim.score.quality (counted claim.g last) claim.score.steps (length n) _ (sym same) fewer)
]

-- over what is worse than something that it wins over
pub wins-through : (claim : Claim) (m n : List Action) (b c : Score) → Wins claim m b → is_better b m c n ≡ true → (claim.actions ≡ m → claim.score ≡ b) → Wins claim n c
wins-through claim m n b c (inl same) better scores =
    inr (subst (λ (l : List Action). is_better claim.score l c n ≡ true) (sym same) (subst (λ (s : Score). is_better s m c n ≡ true) (sym (scores same)) better))
wins-through claim m n b c (inr wins) better scores = inr (better-transitive claim.actions m n claim.score b c wins better)
