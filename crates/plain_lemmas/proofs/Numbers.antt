-- Numbers, and conditions on numbers.
use Rattle.std.proofs.Common.{◌≡◌, ℕ, suc, ◌+◌, ◌-◌, ◌/◌, ◌%◌, ◌<◌, ◌≤◌, ◌==◌, Bool, true, false, ◌||◌, nat_lt, min, arith, refl, if◌then◌else◌}
use Rattle.std.proofs.lemmas.Bool.Decides.{nat_tests}

pub one_more : (n : ℕ) → n + 1 ≡ suc n
one_more n = omega arith

pub one_less : (j : ℕ) → j + 1 - 1 ≡ j
one_less j = omega arith

pub if_le : (c : Bool) (a b a' b' : ℕ) → a ≤ a' → b ≤ b' → (if c then a else b) ≤ (if c then a' else b')
if_le true a b a' b' h k = h
if_le false a b a' b' h k = k

pub if_bound : (c : Bool) (a b n : ℕ) → a ≤ n → b ≤ n → (if c then a else b) ≤ n
if_bound true a b n h k = h
if_bound false a b n h k = k

pub if_below : (c : Bool) (a b n : ℕ) → a < n → b < n → (if c then a else b) < n
if_below true a b n h k = h
if_below false a b n h k = k

pub positive_more : (n m : ℕ) → n ≤ m → nat_lt 0 n ≡ true → nat_lt 0 m ≡ true
positive_more n m more h = grind arith

pub none_left : (b b' : ℕ) → b' ≤ b → (b == 0) ≡ true → (b' == 0) ≡ true
none_left b b' less e = grind arith

pub above_zero : (n : ℕ) → false ≡ (n == 0) → 0 < n
above_zero n h = grind (arith, nat_tests)

pub some_fives : (d : ℕ) → (d == 0) ≡ false → d % 5 ≡ 0 → 1 ≤ d / 5
some_fives d h fives = grind arith

pub made_progress : (c : Bool) (m n p : ℕ) → (if c then m else n) ≡ p → (n == p) ≡ false → c ≡ true
made_progress true m n p h k = refl
made_progress false m n p h k = grind arith

pub gained : (c : Bool) (p n x y : ℕ) → x ≤ y → (if c then min p (n + x) else n) ≤ n + y
gained true p n x y h = omega arith
gained false p n x y h = omega arith

pub fives_less : (d w : ℕ) → d % 5 ≡ 0 → w % 5 ≡ 0 → w ≤ d → (d - w) % 5 ≡ 0
fives_less d w h k le = omega arith

pub outlasts : (x : Bool) (d w : ℕ) → (x || (d - w == 0)) ≡ false → d % 5 ≡ 0 → w % 5 ≡ 0 → (w ≤ d) × (5 ≤ d - w)
outlasts x d w live fives wears = (grind arith, grind arith)
