-- A complete macro is no better than the claimed one exactly where it is this one or worse.
use Rattle.std.proofs.Common.{IsTrue, ◌↔◌, ◌≡◌, ◌∙◌, sym, Bool, true, false, not, ◌⊎◌, inl, inr, List, length, Some, None, refl, ap, subst, if◌then◌else◌}
use Rattle.plain_lemmas.proofs.Tests.{not_true, some_same}
use Rattle.action_table.specs.declared.action.Action.{Action}
use Rattle.craft_settings.specs.Ranges.{SettingsFields}
use Rattle.step_rules.specs.Legality.{start_of, is_complete}
use Rattle.step_rules.specs.Macro.{counted}
use Rattle.macro_order.specs.declared.scores.Score.{Score}
use Rattle.macro_order.specs.Order.{seconds_of, scored, score_of, is_better}
use Rattle.macro_order.proofs.Total.{better_not, better_or}
use Rattle.prefix_fronts.specs.Prefix.{Prefix}
use Rattle.certificate_laws.specs.Claims.{score_at}
use Rattle.front_check.specs.Judging.{IsBegun}

begun-score : (g : SettingsFields) (p : Prefix) → IsBegun g p → is_complete g p.state ≡ true → score_of g p.actions ≡ Some (score_at g p)
begun-score g p begun full =
    ap (scored g p.actions) begun.ran ∙ ap (λ b. if b then Some (record { quality = counted g p.state; steps = length p.actions; seconds = seconds_of p.actions }) else None) full
    ∙ (λ i. Some (record { quality = counted g p.state; steps = length p.actions; seconds = sym begun.seconds i }))

same-or-better : (g : SettingsFields) (m n : List Action) (a b : Score) → score_of g m ≡ Some a → score_of g n ≡ Some b → is_better b n a m ≡ false → (m ≡ n) ⊎ (is_better a m b n ≡ true)
same-or-better g m n a b x y worse = elim (better_or g (start_of g) m n a b x y) [
  | inl same ↦ inl same
  | inr (inl better) ↦ inr better
  | inr (inr other) ↦ absurd (cc (other, worse))
]

not-better : (g : SettingsFields) (m n : List Action) (a b : Score) → score_of g m ≡ Some a → score_of g n ≡ Some b → (m ≡ n) ⊎ (is_better a m b n ≡ true) → is_better b n a m ≡ true → ⊥
not-better g m n a b x y (inl same) wins =
    let e : a ≡ b = some_same a b (sym x ∙ ap (score_of g) same ∙ y) in
    let self : is_better b n b n ≡ true = subst (λ (s : Score). is_better b n s n ≡ true) e (subst (λ (l : List Action). is_better b n a l ≡ true) same wins) in
    better_not n n b b self self
not-better g m n a b x y (inr better) wins = better_not m n a b better wins

-- what the test of the better one tells
pub no-better : (g : SettingsFields) (m : List Action) (a : Score) (p : Prefix) → score_of g m ≡ Some a → IsBegun g p → is_complete g p.state ≡ true → is_better (score_at g p) p.actions a m ≡ false →
    (m ≡ p.actions) ⊎ (is_better a m (score_at g p) p.actions ≡ true)
no-better g m a p x begun full worse = same-or-better g m p.actions a (score_at g p) x (begun-score g p begun full) worse

pub no-worse : (g : SettingsFields) (m : List Action) (a : Score) (p : Prefix) → score_of g m ≡ Some a → IsBegun g p → is_complete g p.state ≡ true → (m ≡ p.actions) ⊎ (is_better a m (score_at g p) p.actions ≡ true) →
    is_better (score_at g p) p.actions a m ≡ true → ⊥
no-worse g m a p x begun full good wins = not-better g m p.actions a (score_at g p) x (begun-score g p begun full) good wins

not_by : (b : Bool) → (b ≡ true → ⊥) → IsTrue (not b)
not_by true h = absurd (h refl)
not_by false h = refl

-- the test, by what it compares
pub both-ways : (g : SettingsFields) (m : List Action) (a : Score) (p : Prefix) (mine : Score) (listed : List Action) (wins : Bool) → score_of g m ≡ Some a → IsBegun g p → true ≡ is_complete g p.state → mine ≡ score_at g p → listed ≡ p.actions →
    wins ≡ is_better mine listed a m →
    IsTrue (not wins) ↔ ((is_complete g p.state ≡ true) × ((m ≡ p.actions) ⊎ (is_better a m (score_at g p) p.actions ≡ true)))
both-ways g m a p mine listed wins x begun full score list is =
    let e : wins ≡ is_better (score_at g p) p.actions a m = is ∙ ap (λ (s : Score). is_better s listed a m) score ∙ ap (λ (l : List Action). is_better (score_at g p) l a m) list in
    (λ yes. (sym full, no-better g m a p x begun (sym full) (sym e ∙ not_true wins yes)), λ good. not_by wins (λ w. no-worse g m a p x begun (sym full) good.1 (sym e ∙ w)))
