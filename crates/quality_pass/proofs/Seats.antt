-- What seats saw, call after call.
use Rattle.std.proofs.Common.{◌≡◌, sym, ℕ, ◌+◌, ◌<◌, ◌≤◌, ◌⊎◌, inl, inr, List, subst, arith, get_or, length}
use Rattle.std.proofs.lemmas.Bool.{cases_lt}
use Rattle.race_core.specs.declared.view.View.{View}
use Rattle.relaxed_moves.specs.declared.places.TheConstants.{BUCKET_STATES}
use Rattle.worker_gate.specs.Cut.{cut}
use Rattle.seat_tables.specs.Seats.{SeatFields, StillSees}
use Rattle.seat_tables.proofs.Stills.{still-trans}
use Rattle.quality_bound.specs.declared.truth.QualityTruth.{QualityTruth}
use Rattle.quality_bound.specs.Seen.{SeesEffects}
use Rattle.quality_pass.specs.Answer.{AllStillSee, AllSeeBudget, AllSeeBudgets}

pub seats_still-trans : (a b c : List (SeatFields QualityTruth)) → length b ≡ length a → AllStillSee a b → AllStillSee b c → AllStillSee a c
seats_still-trans a b c same h k i d low = still-trans _ _ _ (h i d low) (k i d (omega (arith, same)))

pub sees-still : (grain budget from to : ℕ) (v w : View QualityTruth) → SeesEffects grain budget from to v → StillSees v w → SeesEffects grain budget from to w
sees-still grain budget from to v w h still = record { seen = λ place first low high. still.seen place (h.seen place first low high) }

pub budget-still : (grain budget : ℕ) (a b : List (SeatFields QualityTruth)) → length b ≡ length a → AllSeeBudget grain budget a → AllStillSee a b → AllSeeBudget grain budget b
budget-still grain budget a b same h still k d low =
    subst (λ (n : ℕ). SeesEffects grain budget (cut BUCKET_STATES n k) (cut BUCKET_STATES n (k + 1)) (get_or b k d).view) (sym same)
    (sees-still grain budget _ _ _ _ (h k d (omega (arith, same))) (still k d (omega (arith, same))))

-- one budget more
pub budgets-more : (grain budget : ℕ) (a b : List (SeatFields QualityTruth)) → length b ≡ length a → AllStillSee a b → ((n : ℕ) → n < budget → AllSeeBudget grain n a)
    → ((k : ℕ) (d : SeatFields QualityTruth) → k < length a → SeesEffects grain budget (cut BUCKET_STATES (length a) k) (cut BUCKET_STATES (length a) (k + 1)) (get_or b k d).view)
    → (n : ℕ) → n < budget + 1 → AllSeeBudget grain n b
budgets-more grain budget a b same still before here n low = either (cases_lt n budget)
  where
    either : (n < budget) ⊎ (budget ≤ n) → AllSeeBudget grain n b
    either (inl less) = budget-still grain n a b same (before n less) still
    either (inr most) =
        let e : budget ≡ n = omega arith in
        subst (λ (m : ℕ). AllSeeBudget grain m b) e (λ k d inside.
        subst (λ (m : ℕ). SeesEffects grain budget (cut BUCKET_STATES m k) (cut BUCKET_STATES m (k + 1)) (get_or b k d).view) (sym same) (here k d (omega (arith, same))))

pub all_budgets-still : (grain most : ℕ) (a b : List (SeatFields QualityTruth)) → length b ≡ length a → AllSeeBudgets grain most a → AllStillSee a b → AllSeeBudgets grain most b
all_budgets-still grain most a b same h still budget low = budget-still grain budget a b same (h budget low) still
