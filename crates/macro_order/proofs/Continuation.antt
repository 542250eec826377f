-- A list after actions that are done, beside the same list from the state that these lead to.
use Rattle.std.proofs.Common.{ℕ, Bool, true, ◌≡◌, ◌∙◌, sym, ap, subst, refl, ◌+◌, inl, inr, List, [], ◌∷◌, ◌++◌, Option, Some, None, length, length-append, arith, nat_lt, ◌==◌, ◌&&◌, ◌||◌, if◌then◌else◌}
use Rattle.plain_lemmas.proofs.Tests.{bool_cases}
use Rattle.std.proofs.lemmas.Bool.Decides.{nat_tests}
use Rattle.std.proofs.lemmas.List.{append_cancel_left}
use Rattle.action_table.specs.declared.action.Action.{Action}
use Rattle.action_table.specs.Table.{number_of}
use Rattle.craft_state.specs.Craft.{StateFields}
use Rattle.craft_settings.specs.Ranges.{SettingsFields}
use Rattle.step_rules.specs.Legality.{start_of, is_complete}
use Rattle.step_rules.specs.Run.{run_of}
use Rattle.step_rules.proofs.Runs.{run_of-append}
use Rattle.macro_order.specs.declared.scores.Score.{Score}
use Rattle.macro_order.specs.Order.{seconds_of, scored, score_from, score_of, precedes, is_better, IsBest, IsBestFrom, IsBestAfter, NothingCompletesFrom, NothingCompletesAfter}
use Rattle.macro_order.proofs.Total.{better_not}

pub seconds_of-append : (m r : List Action) → seconds_of (m ++ r) ≡ seconds_of m + seconds_of r
seconds_of-append [] r = omega arith
seconds_of-append (a ∷ m) r = let rest = seconds_of-append m r in omega (arith, rest)

same_place : (x : ℕ) (p : Bool) → (nat_lt x x || (x == x && p)) ≡ p
same_place x p = grind (arith, nat_tests)

precedes-after : (done m n : List Action) → precedes (done ++ m) (done ++ n) ≡ precedes m n
precedes-after [] m n = refl
precedes-after (a ∷ done) m n = same_place (number_of a) _ ∙ precedes-after done m n

lt_shift : (d x y : ℕ) → nat_lt (d + x) (d + y) ≡ nat_lt x y
lt_shift d x y = grind (arith, nat_tests)

eq_shift : (d x y : ℕ) → (d + x == d + y) ≡ (x == y)
eq_shift d x y = grind (arith, nat_tests)

-- the same steps and seconds more on both sides
shifted : (d e x y u v : ℕ) (p q : Bool) → p ≡ q →
    (nat_lt (d + x) (d + y) || (d + x == d + y && (nat_lt (e + u) (e + v) || (e + u == e + v && p)))) ≡ (nat_lt x y || (x == y && (nat_lt u v || (u == v && q))))
shifted d e x y u v p q same = rw (lt_shift d x y, eq_shift d x y, lt_shift e u v, eq_shift e u v, same) refl

-- a score, with those of the actions that are done before
abbrev with_done : List Action → Score → Score
with_done done a = record { quality = a.quality; steps = length done + a.steps; seconds = seconds_of done + a.seconds }

better-after : (done m n : List Action) (a b : Score) → is_better (with_done done a) (done ++ m) (with_done done b) (done ++ n) ≡ is_better a m b n
better-after done m n a b =
    ap (λ t. nat_lt b.quality a.quality || (a.quality == b.quality && t))
    (shifted (length done) (seconds_of done) a.steps b.steps a.seconds b.seconds (precedes (done ++ m) (done ++ n)) (precedes m n) (precedes-after done m n))

abbrev after_done : List Action → Option Score → Option Score
after_done done None = None
after_done done (Some a) = Some (with_done done a)

scored-after : (g : SettingsFields) (done m : List Action) (o : Option StateFields) → scored g (done ++ m) o ≡ after_done done (scored g m o)
scored-after g done m None = refl
scored-after g done m (Some s) = elim (bool_cases (is_complete g s)) [
  | inl full ↦ rw (full, length-append done m, seconds_of-append done m) refl
  | inr other ↦ rw other refl
]

score-after : (g : SettingsFields) (done m : List Action) (s : StateFields) → run_of g (start_of g) done ≡ Some s → score_of g (done ++ m) ≡ after_done done (score_from g s m)
score-after g done m s ran = ap (scored g (done ++ m)) (run_of-append g (start_of g) s done m ran) ∙ scored-after g done m (run_of g s m)

after-some : (done : List Action) (o : Option Score) (b : Score) → after_done done o ≡ Some b → (a : Score) × (o ≡ Some a) × (with_done done a ≡ b)
after-some done None b h = absurd (cc)
after-some done (Some a) b h = (a, refl, cc)

after-none : (done : List Action) (o : Option Score) → after_done done o ≡ None → o ≡ None
after-none done None h = refl
after-none done (Some a) h = absurd (cc)

pub best-after : (g : SettingsFields) (done c : List Action) (s : StateFields) → run_of g (start_of g) done ≡ Some s → IsBestFrom g s c → IsBestAfter g done c
best-after g done c s ran best = record {
  score = with_done done best.score;
  completes = score-after g done c s ran ∙ ap (after_done done) best.completes;
  best = λ n b h.
      let own = after-some done (score_from g s n) b (sym (score-after g done n s ran) ∙ h) in
      elim (best.best n own.0 own.1) [
        | inl same ↦ inl same
        | inr better ↦ inr (subst (λ (t : Score). is_better (with_done done best.score) (done ++ c) t (done ++ n) ≡ true) own.2 (better-after done c n best.score own.0 ∙ better))
      ];
}

pub best-from : (g : SettingsFields) (done c : List Action) (s : StateFields) → run_of g (start_of g) done ≡ Some s → IsBestAfter g done c → IsBestFrom g s c
best-from g done c s ran best =
    let own = after-some done (score_from g s c) best.score (sym (score-after g done c s ran) ∙ best.completes) in
    record {
      score = own.0;
      completes = own.1;
      best = λ n b h. elim (best.best n (with_done done b) (score-after g done n s ran ∙ ap (after_done done) h)) [
        | inl same ↦ inl same
        | inr better ↦ inr (sym (better-after done c n own.0 b) ∙ subst (λ (t : Score). is_better t (done ++ c) (with_done done b) (done ++ n) ≡ true) (sym own.2) better)
      ];
    }

pub nothing-after : (g : SettingsFields) (done : List Action) (s : StateFields) → run_of g (start_of g) done ≡ Some s → NothingCompletesFrom g s → NothingCompletesAfter g done
nothing-after g done s ran nothing m = score-after g done m s ran ∙ ap (after_done done) (nothing m)

pub nothing-from : (g : SettingsFields) (done : List Action) (s : StateFields) → run_of g (start_of g) done ≡ Some s → NothingCompletesAfter g done → NothingCompletesFrom g s
nothing-from g done s ran nothing m = after-none done (score_from g s m) (sym (score-after g done m s ran) ∙ nothing m)

-- after the first actions of the best macro its rest is the best
pub rest-is-best : (g : SettingsFields) (done rest c : List Action) → IsBest g (done ++ rest) → IsBestAfter g done c → c ≡ rest
rest-is-best g done rest c best after = elim (after.best rest best.score best.completes) [
  | inl same ↦ same
  | inr better ↦ elim (best.best (done ++ c) after.score after.completes) [
    | inl same ↦ sym (append_cancel_left done rest c same)
    | inr worse ↦ absurd (better_not (done ++ c) (done ++ rest) after.score best.score better worse)
  ]
]
