-- What the form of a sample's number says of it.
use Rattle.std.proofs.Common.{◌≡◌, ◌<◌, ◌≤◌, ◌==◌, ◌&&◌, ◌||◌, Bool, true, false, not, ℕ, List, length, arith, rules, nat_lt, nat_le, get_or, refl, sym, true≢false}
use Rattle.std.specs.Char.{is_ascii_digit}
use Rattle.std.specs.List.{list_all}
use Rattle.std.specs.Str.Parse.{digits_value}
use Rattle.std.proofs.lemmas.Bool.Decides.{nat_tests}
use Rattle.std.proofs.lemmas.Str.Parse.{IsNumeralModel, numerals_by_value, digits_value_short}
use Rattle.solve_words.specs.Values.{is_sample_number}

pub numeral : IsNumeralModel (λ ds. list_all is_ascii_digit ds ≡ true) (digits_value 10)
numeral = numerals_by_value _ (search rules)

three_of : (a b d e : Bool) → (a && b && d && e) ≡ true → (a ≡ true) × (b ≡ true) × (d ≡ true)
three_of true true true e h = (refl, refl, refl)
three_of true true false e h = absurd (true≢false (sym h))
three_of true false d e h = absurd (true≢false (sym h))
three_of false b d e h = absurd (true≢false (sym h))

pub record NumberFacts (text : List ℕ) : Type 0 where
  pub some : 0 < length text
  pub digits : list_all is_ascii_digit text ≡ true
  pub small : digits_value 10 text < 1000000

pub number_facts : (text : List ℕ) → is_sample_number text ≡ true → NumberFacts text
number_facts text form =
    let parts = three_of (nat_lt 0 (length text)) (nat_le (length text) 6) (list_all is_ascii_digit text) (length text == 1 || not (get_or text 0 0 == 48)) form in
    let some : 0 < length text = grind (arith, nat_tests, parts.0) in
    let short : length text ≤ 6 = grind (arith, nat_tests, parts.1) in
    record { some = some; digits = parts.2; small = digits_value_short numeral text 6 parts.2 short }
