-- What the tests of limits say of the verdict.
use Rattle.std.proofs.Common.{◌≡◌, ◌∙◌, sym, ℕ, ◌==◌, ◌&&◌, ◌||◌, Bool, true, false, Option, Some, None, refl, ap}
use Rattle.plain_lemmas.proofs.Tests.{clash}
use Rattle.craft_state.specs.Craft.{StateFields}
use Rattle.step_rules.specs.Legality.{is_complete, is_over}
use Rattle.relaxed_moves.specs.Optimum.{limit_of, within_of}
use Rattle.certificate_text.specs.declared.verdict.Verdict.TheVariants.{Complete, Failed, Limited}
use Rattle.certificate_laws.specs.Claims.{Claim, is_below, is_at_most}
use Rattle.certificate_laws.proofs.Made.{picked}
use Rattle.certificate_laws.specs.Made.{is_limited, is_late, settled}
use Rattle.certificate_maker.specs.Marks.{IsAsked}

both-by : (most short other : Bool) → (most ≡ true → short ≡ other) → (most && other) ≡ (most && short)
both-by true short other h = sym (h refl)
both-by false short other h = refl

pub settled-complete : (claim : Claim) (left : ℕ) (s : StateFields) → is_complete claim.g s ≡ true → settled claim left s ≡ Some Complete
unfolding settled
settled-complete claim left s full =
    ap (λ b. picked b (is_over claim.g s) (is_limited claim s) (is_late claim left s)) full

pub settled-failed : (claim : Claim) (left : ℕ) (s : StateFields) → is_complete claim.g s ≡ false → is_over claim.g s ≡ true → settled claim left s ≡ Some Failed
unfolding settled
settled-failed claim left s undone over =
    (λ j. picked (undone j) (over j) (is_limited claim s) (is_late claim left s))

limited-is : (claim : Claim) (s : StateFields) (limit : Option ℕ) (below : Bool) → IsAsked claim s limit → below ≡ is_below limit claim.score.quality → is_limited claim s ≡ below
unfolding is_limited
limited-is claim s limit below asked h = ap (λ (o : Option ℕ). is_below o claim.score.quality) (sym asked.is) ∙ sym h

late-is : (claim : Claim) (left : ℕ) (s : StateFields) (limit : Option ℕ) (most short : Bool) → IsAsked claim s limit → most ≡ is_at_most limit claim.score.quality →
    (most ≡ true → short ≡ (left == 0 || is_below (within_of claim.g claim.grain s left) claim.score.quality)) → is_late claim left s ≡ (most && short)
unfolding is_late
late-is claim left s limit most short asked h k =
    let same : is_at_most (limit_of claim.g claim.grain s) claim.score.quality ≡ most = ap (λ (o : Option ℕ). is_at_most o claim.score.quality) (sym asked.is) ∙ sym h in
    ap (λ b. b && (left == 0 || is_below (within_of claim.g claim.grain s left) claim.score.quality)) same ∙ both-by most short (left == 0 || is_below (within_of claim.g claim.grain s left) claim.score.quality) k

settled-by : (claim : Claim) (left : ℕ) (s : StateFields) (limit : Option ℕ) (below most short : Bool) → IsAsked claim s limit → below ≡ is_below limit claim.score.quality →
    (below ≡ false → most ≡ is_at_most limit claim.score.quality) → (most ≡ true → short ≡ (left == 0 || is_below (within_of claim.g claim.grain s left) claim.score.quality)) →
    settled claim left s ≡ picked false false below (most && short)
unfolding settled
settled-by claim left s limit true most short asked h k l =
    (λ j. picked (asked.undone j) (asked.live j) (limited-is claim s limit true asked h j) (is_late claim left s))
settled-by claim left s limit false most short asked h k l =
    (λ j. picked (asked.undone j) (asked.live j) (limited-is claim s limit false asked h j) (late-is claim left s limit most short asked (k refl) l j))

pub settled-limited : (claim : Claim) (left : ℕ) (s : StateFields) (limit : Option ℕ) (below : Bool) → IsAsked claim s limit → below ≡ is_below limit claim.score.quality → below ≡ true → settled claim left s ≡ Some Limited
settled-limited claim left s limit below asked h holds =
    settled-by claim left s limit below false false asked h (λ fails. absurd (clash holds fails)) (λ none. cc none) ∙ ap (λ b. picked false false b false) holds

pub settled-wins : (claim : Claim) (left : ℕ) (s : StateFields) (limit : Option ℕ) (below most : Bool) → IsAsked claim s limit → below ≡ is_below limit claim.score.quality → most ≡ is_at_most limit claim.score.quality →
    below ≡ false → most ≡ false → settled claim left s ≡ None
settled-wins claim left s limit below most asked h k low more =
    settled-by claim left s limit below most false asked h (λ _. k) (λ less. absurd (clash less more)) ∙ (λ j. picked false false (low j) (more j && false))

pub settled-short : (claim : Claim) (left : ℕ) (s : StateFields) (limit : Option ℕ) (below most short : Bool) → IsAsked claim s limit → below ≡ is_below limit claim.score.quality → most ≡ is_at_most limit claim.score.quality →
    short ≡ (left == 0 || is_below (within_of claim.g claim.grain s left) claim.score.quality) → below ≡ false → most ≡ true → settled claim left s ≡ picked false false false short
settled-short claim left s limit below most short asked h k l low at_most =
    settled-by claim left s limit below most short asked h (λ _. k) (λ _. l) ∙ (λ j. picked false false (low j) (at_most j && short))
