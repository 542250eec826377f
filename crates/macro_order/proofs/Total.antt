-- The order of macros is total and strict.
use Rattle.std.proofs.Common.{ℕ, Bool, true, false, ◌≡◌, ◌<◌, ◌⊎◌, inl, inr, List, [], ◌∷◌, Option, Some, None, length, refl, sym, ap, ◌∙◌, arith, nat_lt, ◌==◌, ◌&&◌, ◌||◌}
use Rattle.action_table.specs.declared.action.Action.{Action}
use Rattle.action_table.specs.Table.{number_of}
use Rattle.action_table.proofs.Names.{number_of-injective}
use Rattle.craft_state.specs.Craft.{StateFields}
use Rattle.craft_settings.specs.Ranges.{SettingsFields}
use Rattle.step_rules.specs.Run.{run_of}
use Rattle.macro_order.specs.declared.scores.Score.{Score}
use Rattle.macro_order.specs.Order.{precedes, scored, score_from, is_better, IsBestFrom}

-- three ways for two numbers
ways : (m n : ℕ) → (m ≡ n) ⊎ ((m < n) ⊎ (n < m))
ways m n = grind arith

-- one place of two lists, where `p` compares the rest
abbrev here : ℕ → ℕ → Bool → Bool
here x y p = nat_lt x y || (x == y && p)

here-less : (x y : ℕ) (p : Bool) → x < y → here x y p ≡ true
here-less x y p less = grind arith

here-same : (x y : ℕ) (p : Bool) → x ≡ y → p ≡ true → here x y p ≡ true
here-same x y p same rest = grind arith

here-both : (x y : ℕ) (p q : Bool) → (p ≡ true → q ≡ true → ⊥) → here x y p ≡ true → here y x q ≡ true → ⊥
here-both x y true true never a b = absurd (never refl refl)
here-both x y false q never a b = grind arith
here-both x y true false never a b = grind arith

precedes_or : (m n : List Action) → length m ≡ length n → (m ≡ n) ⊎ ((precedes m n ≡ true) ⊎ (precedes n m ≡ true))
precedes_or [] [] e = inl refl
precedes_or [] (b ∷ n) e = absurd (omega (arith, e))
precedes_or (a ∷ m) [] e = absurd (omega (arith, e))
precedes_or (a ∷ m) (b ∷ n) e = elim (ways (number_of a) (number_of b)) [
  | inr (inl less) ↦ inr (inl (here-less (number_of a) (number_of b) (precedes m n) less))
  | inr (inr more) ↦ inr (inr (here-less (number_of b) (number_of a) (precedes n m) more))
  | inl same ↦ elim (precedes_or m n (omega (arith, e))) [
    | inl tail ↦ inl (ap (λ (x : Action). x ∷ m) (number_of-injective a b same) ∙ ap (λ (x : List Action). b ∷ x) tail)
    | inr (inl before) ↦ inr (inl (here-same (number_of a) (number_of b) (precedes m n) same before))
    | inr (inr after) ↦ inr (inr (here-same (number_of b) (number_of a) (precedes n m) (sym same) after))
  ]
]

precedes_not : (m n : List Action) → precedes m n ≡ true → precedes n m ≡ true → ⊥
precedes_not [] n p q = cc
precedes_not (a ∷ m) [] p q = cc
precedes_not (a ∷ m) (b ∷ n) p q =
    here-both (number_of a) (number_of b) (precedes m n) (precedes n m) (precedes_not m n) p q

-- the order of scores, where `p` compares the lists
abbrev wins : Score → Score → Bool → Bool
wins a b p =
    nat_lt b.quality a.quality || (a.quality == b.quality && (nat_lt a.steps b.steps || (a.steps == b.steps && (nat_lt a.seconds b.seconds || (a.seconds == b.seconds && p)))))

more-both : (x y : ℕ) (p q : Bool) → (p ≡ true → q ≡ true → ⊥) →
    nat_lt y x || (x == y && p) ≡ true → nat_lt x y || (y == x && q) ≡ true → ⊥
more-both x y true true never a b = absurd (never refl refl)
more-both x y false q never a b = grind arith
more-both x y true false never a b = grind arith

wins_not : (a b : Score) (p q : Bool) → (p ≡ true → q ≡ true → ⊥) → wins a b p ≡ true → wins b a q ≡ true → ⊥
wins_not a b p q never =
    let by_seconds = here-both a.seconds b.seconds p q never in
    let by_steps = here-both a.steps b.steps (here a.seconds b.seconds p) (here b.seconds a.seconds q) by_seconds in
    more-both a.quality b.quality (here a.steps b.steps (here a.seconds b.seconds p)) (here b.steps a.steps (here b.seconds a.seconds q)) by_steps

-- the one with more quality, fewer steps or fewer seconds wins, or the lists decide
wins_or : (a b : Score) (p q : Bool) →
    (wins a b p ≡ true) ⊎ ((wins b a q ≡ true) ⊎ ((a.steps ≡ b.steps) × (wins a b p ≡ p) × (wins b a q ≡ q)))
wins_or a b p q = elim (ways a.quality b.quality) [
  | inr (inl less) ↦ inr (inl (grind arith))
  | inr (inr more) ↦ inl (grind arith)
  | inl quality ↦ elim (ways a.steps b.steps) [
    | inr (inl less) ↦ inl (grind arith)
    | inr (inr more) ↦ inr (inl (grind arith))
    | inl steps ↦ elim (ways a.seconds b.seconds) [
      | inr (inl less) ↦ inl (grind arith)
      | inr (inr more) ↦ inr (inl (grind arith))
      | inl seconds ↦ inr (inr (steps, grind arith, grind arith))
    ]
  ]
]

-- a score's steps are the list's length
score_steps : (g : SettingsFields) (m : List Action) (o : Option StateFields) (a : Score) → scored g m o ≡ Some a → a.steps ≡ length m
score_steps g m None a h = cc
score_steps g m (Some s) a h = grind arith

pub better_not : (m n : List Action) (a b : Score) → is_better a m b n ≡ true → is_better b n a m ≡ true → ⊥
better_not m n a b p q = wins_not a b (precedes m n) (precedes n m) (precedes_not m n) p q

pub better_or : (g : SettingsFields) (from : StateFields) (m n : List Action) (a b : Score) → score_from g from m ≡ Some a → score_from g from n ≡ Some b →
    (m ≡ n) ⊎ ((is_better a m b n ≡ true) ⊎ (is_better b n a m ≡ true))
better_or g from m n a b x y = elim (wins_or a b (precedes m n) (precedes n m)) [
  | inl first ↦ inr (inl first)
  | inr (inl second) ↦ inr (inr second)
  | inr (inr tie) ↦
      let one = score_steps g m (run_of g from m) a x in
      let other = score_steps g n (run_of g from n) b y in
      elim (precedes_or m n (sym one ∙ tie.0 ∙ other)) [
        | inl same ↦ inl same
        | inr (inl before) ↦ inr (inl (tie.1 ∙ before))
        | inr (inr after) ↦ inr (inr (tie.2 ∙ after))
      ]
]

pub only_best : (g : SettingsFields) (from : StateFields) (m n : List Action) → IsBestFrom g from m → IsBestFrom g from n → m ≡ n
only_best g from m n p q = elim (p.best n q.score q.completes) [
  | inl same ↦ same
  | inr better ↦ elim (q.best m p.score p.completes) [
    | inl same ↦ sym same
    | inr worse ↦ absurd (better_not m n p.score q.score better worse)
  ]
]
