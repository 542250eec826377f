use Rattle.std.proofs.Common.{◌≡◌, ◌≤◌, min, drop}
use Rattle.std.specs.Char.{is_ascii_digit}
use Rattle.std.specs.List.{list_all}
use Rattle.std.specs.Str.Parse.{digits_value_after, digits_value}
use Rattle.certificate_text.specs.declared.numbers.TheConstants.{MOST_NUMBER}
use Rattle.certificate_text.proofs.numbers.read_number.Given as goal

abbrev pub invariant-loop-digit : goal.invariant-loop-digit
invariant-loop-digit l = record {
  small : l.number ≤ MOST_NUMBER;
  digits : list_all is_ascii_digit l.text ≡ list_all is_ascii_digit (drop l.digit-index l.text);
  value : min (digits_value_after 10 l.number (drop l.digit-index l.text)) MOST_NUMBER ≡ min (digits_value 10 l.text) MOST_NUMBER;
}
