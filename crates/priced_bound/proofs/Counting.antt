-- Units: the greatest common divisor, and whole numbers of the finest unit.
use Rattle.std.proofs.Common.{ℕ, zero, suc, Bool, true, false, List, [], ◌∷◌, ◌≡◌, ◌≤◌, ◌<◌, ◌+◌, ◌-◌, ◌*◌, ◌%◌, ◌^◌, ◌==◌, ◌||◌, not, max, refl, subst, arith, inl, inr}
use Rattle.std.specs.Int.{div_ceil}
use Rattle.std.specs.List.{list_all}
use Rattle.std.proofs.lemmas.Bool.{cases_lt}
use Rattle.std.proofs.lemmas.Nat.{mod_below, mul-le}
use Rattle.std.proofs.Math.Nat.{mul-le-mul_left}
use Rattle.plain_lemmas.proofs.Tests.{clash, and_by, eq_to}
use Rattle.action_table.specs.declared.action.Action.{Action}
use Rattle.action_table.specs.Table.{row_of, all_actions}
use Rattle.craft_settings.specs.Ranges.{SettingsFields}
use Rattle.relaxed_moves.specs.Moves.{is_listed}
use Rattle.priced_moves.specs.Moves.{ceiling}
use Rattle.priced_moves.proofs.Rounding.{ceiling-covers, ceiling-least, ceiling-std}
use Rattle.priced_bound.specs.declared.choices.TheConstants.{MOST_EFFICIENCY, MOST_WORTH}
use Rattle.priced_bound.specs.Choices.{divides, divides_each, IsGreatestDivisor}

all_true : (f : Action → Bool) (xs : List Action) → ((a : Action) → f a ≡ true) → list_all f xs ≡ true
all_true f [] h = refl
all_true f (a ∷ xs) h = and_by (f a) (list_all f xs) (h a) (all_true f xs h)

one_divides : (rest : Bool) (n : ℕ) → (rest || (n % 1 == 0)) ≡ true
one_divides true n = refl
one_divides false n = eq_to (n % 1) 0 (let small : n % 1 < 1 = mod_below n 1 (omega arith) in omega arith)

-- one divides all
pub one-divides : (g : SettingsFields) → divides_each g 1 ≡ true
one-divides g = all_true (divides g 1) all_actions (λ a. one_divides (not (is_listed g a)) (row_of a g.level).progress)

-- no number above this one divides all
pub record NoneAbove (g : SettingsFields) (n : ℕ) : Type 0 where
  pub at : (m : ℕ) → n < m → m ≤ MOST_EFFICIENCY → divides_each g m ≡ false

pub none-first : (g : SettingsFields) → NoneAbove g (MOST_EFFICIENCY - 0)
none-first g = record { at = λ m above high. absurd (let x : ⊥ = omega arith in x) }

pub none-more : (g : SettingsFields) (past n : ℕ) → n + past ≡ MOST_EFFICIENCY → 1 ≤ n → divides_each g n ≡ false → NoneAbove g (MOST_EFFICIENCY - past) → NoneAbove g (MOST_EFFICIENCY - (past + 1))
none-more g past n is some fails none = record {
  at = λ m above high. elim (cases_lt n m) [
    | inl beyond ↦ none.at m (omega arith) high
    | inr within ↦ let e : n ≡ m = omega arith in subst (λ (k : ℕ). divides_each g k ≡ false) e fails
  ];
}

pub greatest-found : (g : SettingsFields) (past n : ℕ) → n + past ≡ MOST_EFFICIENCY → 1 ≤ n → divides_each g n ≡ true → NoneAbove g (MOST_EFFICIENCY - past) → IsGreatestDivisor g n
greatest-found g past n is some works none = record {
  low = some;
  high = omega arith;
  divides = works;
  no_more = λ m low high h. elim (cases_lt n m) [
    | inl beyond ↦ absurd (clash h (none.at m (omega arith) high))
    | inr within ↦ within
  ];
}

-- ---- whole numbers of the finest unit

pub together_some : (fine most : ℕ) → 1 ≤ fine → 1 ≤ most → 1 ≤ fine * most
together_some fine most h k = mul-le 1 1 fine most h k

pub together_small : (fine most : ℕ) → fine ≤ 1800000 → most ≤ 1000 → fine * most ≤ 1800000000
together_small fine most h k = mul-le fine most 1800000 1000 h k

-- where so many are the least that are enough, one less isn't
one-less : (points whole k : ℕ) → 0 < whole → ceiling points whole ≡ suc k → k * whole < points
one-less points whole k some is = elim (cases_lt (k * whole) points) [
  | inl less ↦ less
  | inr more ↦ absurd (let least : ceiling points whole ≤ k = ceiling-least points whole k some more in let x : ⊥ = omega arith in x)
]

times-small : (points fine most times : ℕ) → 1 ≤ fine → 1 ≤ most → ceiling points (fine * most) ≡ times → fine * times ≤ points + fine
times-small points fine most zero h k is = omega arith
times-small points fine most (suc t) h k is =
    let less : t * (fine * most) < points = one-less points (fine * most) t (together_some fine most h k) is in
    let wide : fine * 1 ≤ fine * most = mul-le-mul_left fine k in
    let product : t * fine ≤ t * (fine * most) = mul-le-mul_left t (omega (arith, wide)) in
    omega (arith, less, product)

pub whole-small : (points fine most times : ℕ) → 1 ≤ fine → 1 ≤ most → times ≡ div_ceil points (fine * most) → fine * times ≤ points + fine
whole-small points fine most times h k is =
    times-small points fine most times h k (rw is (sym_std points (fine * most) (together_some fine most h k)))
  where
    sym_std : (n m : ℕ) → 0 < m → ceiling n m ≡ div_ceil n m
    sym_std n m some = let e = ceiling-std n m some in cc

times-some : (points whole : ℕ) (times : ℕ) → 0 < whole → 1 ≤ points → ceiling points whole ≡ times → 1 ≤ times
times-some points whole zero some h is = absurd (let covers = ceiling-covers points whole some in let none : ceiling points whole * whole ≡ 0 * whole = ap_times is in let x : ⊥ = omega (arith, covers, none) in x)
  where
    ap_times : ceiling points whole ≡ 0 → ceiling points whole * whole ≡ 0 * whole
    ap_times e = rw e refl
times-some points whole (suc t) some h is = omega arith

pub whole-some : (points fine most : ℕ) → 1 ≤ fine → 1 ≤ most → 1 ≤ points → 1 ≤ fine * ceiling points (fine * most)
whole-some points fine most h k some =
    mul-le 1 1 fine (ceiling points (fine * most)) h (times-some points (fine * most) (ceiling points (fine * most)) (together_some fine most h k) some refl)

-- the progress takes no more than so many
pub whole-few : (points fine most : ℕ) → 1 ≤ fine → 1 ≤ most → 1 ≤ points → ceiling points (fine * ceiling points (fine * most)) ≤ most
whole-few points fine most h k some =
    let covers = ceiling-covers points (fine * most) (together_some fine most h k) in
    ceiling-least points (fine * ceiling points (fine * most)) most (whole-some points fine most h k some) (omega (arith, covers))

-- the cap fits a word
pub word-covers : (cap : ℕ) → cap ≤ max 1 (ceiling cap MOST_WORTH) * MOST_WORTH
word-covers cap = let covers : cap ≤ ceiling cap MOST_WORTH * MOST_WORTH = ceiling-covers cap MOST_WORTH (omega arith) in omega arith

-- ---- the size of a table

pub sheet_small : (nodes need : ℕ) → nodes ≤ 2200 → need ≤ 349 → nodes * (need + 1) ≤ 770000
sheet_small nodes need h k = mul-le nodes (need + 1) 2200 350 h (omega arith)

pub sheets_small : (top sheet : ℕ) → top < 2 ^ 32 → sheet ≤ 770000 → (top + 1) * sheet ≤ 3307124817920000
sheets_small top sheet h k = mul-le (top + 1) sheet (2 ^ 32) 770000 (omega arith) k
