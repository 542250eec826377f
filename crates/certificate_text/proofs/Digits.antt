-- Reading a number digit by digit.
use Rattle.std.proofs.Common.{◌≡◌, ◌∙◌, sym, ℕ, suc, ◌+◌, ◌-◌, ◌*◌, ◌<◌, min, true, List, [], ◌∷◌, length, get_or, drop, refl, ap, arith}
use Rattle.std.proofs.Math.Seq.{drop-cons}
use Rattle.std.proofs.lemmas.Str.{digit_value_digit}
use Rattle.std.proofs.lemmas.Str.Parse.{digit_from_value}
use Rattle.std.specs.Char.{is_ascii_digit, digit_value}
use Rattle.std.specs.List.{list_all}
use Rattle.std.specs.Str.Parse.{digits_value_after}
use Rattle.certificate_text.specs.declared.numbers.TheConstants.{MOST_NUMBER}

more-digits : (a b d : ℕ) → min a MOST_NUMBER ≡ min b MOST_NUMBER → min (a * 10 + d) MOST_NUMBER ≡ min (b * 10 + d) MOST_NUMBER
more-digits a b d h = omega (arith, h)

-- numbers that are the same up to the greatest stay the same with more digits
pub capped-after : (cs : List ℕ) (a b : ℕ) → min a MOST_NUMBER ≡ min b MOST_NUMBER → min (digits_value_after 10 a cs) MOST_NUMBER ≡ min (digits_value_after 10 b cs) MOST_NUMBER
capped-after [] a b h = h
capped-after (c ∷ cs) a b h = capped-after cs (a * 10 + digit_value c) (b * 10 + digit_value c) (more-digits a b (digit_value c) h)

-- one digit more of a text
pub digits-on : (text : List ℕ) (i : ℕ) → i < length text → is_ascii_digit (get_or text i 0) ≡ true → list_all is_ascii_digit (drop i text) ≡ list_all is_ascii_digit (drop (i + 1) text)
digits-on text i inside digit =
    let e : drop i text ≡ get_or text i 0 ∷ drop (suc i) text = drop-cons text i 0 inside in
    let one : i + 1 ≡ suc i = omega arith in
    rw (one, e, digit) refl

value_of-digit : (c : ℕ) → digit_value c < 10 → digit_value c ≡ c - 48
value_of-digit c h = omega (arith, digit_value_digit c (digit_from_value c h))

pub value-on : (text : List ℕ) (i number total next : ℕ) → i < length text → digit_value (get_or text i 0) < 10 → next ≡ min MOST_NUMBER (number * 10 + (get_or text i 0 - 48)) →
    min (digits_value_after 10 number (drop i text)) MOST_NUMBER ≡ total → min (digits_value_after 10 next (drop (i + 1) text)) MOST_NUMBER ≡ total
value-on text i number total next inside digit is h =
    let e : drop i text ≡ get_or text i 0 ∷ drop (suc i) text = drop-cons text i 0 inside in
    let one : i + 1 ≡ suc i = omega arith in
    let d : digit_value (get_or text i 0) ≡ get_or text i 0 - 48 = value_of-digit (get_or text i 0) digit in
    let same : min next MOST_NUMBER ≡ min (number * 10 + digit_value (get_or text i 0)) MOST_NUMBER = omega (arith, is, d) in
    rw one (capped-after (drop (suc i) text) next (number * 10 + digit_value (get_or text i 0)) same ∙ ap (λ (l : List ℕ). min (digits_value_after 10 number l) MOST_NUMBER) (sym e) ∙ h)
