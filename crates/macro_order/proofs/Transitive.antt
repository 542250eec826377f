-- The order of macros is transitive.
use Rattle.std.proofs.Common.{ℕ, Bool, true, ◌≡◌, List, [], ◌∷◌, ◌&&◌, ◌||◌, ◌==◌, nat_lt, arith}
use Rattle.std.proofs.lemmas.Bool.Decides.{nat_tests}
use Rattle.action_table.specs.declared.action.Action.{Action}
use Rattle.action_table.specs.Table.{number_of}
use Rattle.macro_order.specs.declared.scores.Score.{Score}
use Rattle.macro_order.specs.Order.{precedes, is_better}

pub step_trans : (x y z : ℕ) (p q r : Bool) → (p ≡ true → q ≡ true → r ≡ true) → (nat_lt x y || (x == y && p)) ≡ true → (nat_lt y z || (y == z && q)) ≡ true → (nat_lt x z || (x == z && r)) ≡ true
step_trans x y z p q r t h k = grind (arith, nat_tests, t)

pub precedes-transitive : (l m n : List Action) → precedes l m ≡ true → precedes m n ≡ true → precedes l n ≡ true
precedes-transitive [] m n h k = cc
precedes-transitive (a ∷ l) [] n h k = cc
precedes-transitive (a ∷ l) (b ∷ m) [] h k = cc
precedes-transitive (a ∷ l) (b ∷ m) (c ∷ n) h k = step_trans (number_of a) (number_of b) (number_of c) _ _ _ (precedes-transitive l m n) h k

more_trans : (x y z : ℕ) (p q r : Bool) → (p ≡ true → q ≡ true → r ≡ true) → (nat_lt y x || (x == y && p)) ≡ true → (nat_lt z y || (y == z && q)) ≡ true → (nat_lt z x || (x == z && r)) ≡ true
more_trans x y z p q r t h k = grind (arith, nat_tests, t)

pub better-transitive : (l m n : List Action) (a b c : Score) → is_better a l b m ≡ true → is_better b m c n ≡ true → is_better a l c n ≡ true
better-transitive l m n a b c =
    let by_seconds = step_trans a.seconds b.seconds c.seconds (precedes l m) (precedes m n) (precedes l n) (precedes-transitive l m n) in
    let by_steps = step_trans a.steps b.steps c.steps _ _ _ by_seconds in
    more_trans a.quality b.quality c.quality _ _ _ by_steps
