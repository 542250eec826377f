use Rattle.std.proofs.Common.{◌≡◌, ◌≤◌, ◌*◌, ℕ, ◌∙◌, ap, sym, subst, arith}
use Rattle.priced_moves.specs.Moves.{ceiling}
use Rattle.priced_moves.proofs.Rounding.{ceiling-std}
use Rattle.priced_bound.proofs.Counting.{together_some, whole-small, whole-few}
use Rattle.priced_bound.proofs.choices.whole_units.Goals as goal
use Rattle.priced_bound.proofs.choices.whole_units.Goals.{After-div_ceil-times}

times : (c : After-div_ceil-times) → c.div_ceil-times.result ≡ ceiling c.args.points (c.args.fine * c.args.most)
times c = c.div_ceil-times.ensures ∙ ceiling-std c.args.points (c.args.fine * c.args.most) (together_some c.args.fine c.args.most c.requires.fine_low c.requires.most_low)

pub overflow_mul-result : goal.overflow_mul-result
overflow_mul-result c =
    let small = whole-small c.args.points c.args.fine c.args.most c.div_ceil-times.result c.requires.fine_low c.requires.most_low c.div_ceil-times.ensures in
    omega arith

pub returns-clause-value : goal.returns-clause-value
returns-clause-value c = ap (λ (n : ℕ). c.args.fine * n) (times c)

pub returns-clause-few : goal.returns-clause-few
returns-clause-few c =
    subst (λ (n : ℕ). ceiling c.args.points (c.args.fine * n) ≤ c.args.most) (sym (times c))
    (whole-few c.args.points c.args.fine c.args.most c.requires.fine_low c.requires.most_low c.requires.some)
