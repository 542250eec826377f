use Rattle.std.proofs.Common.{◌≡◌, ◌∙◌, sym, ◌+◌, ◌*◌, ◌-◌, min, get_or, arith}
use Rattle.certificate_text.specs.declared.numbers.TheConstants.{MOST_NUMBER}
use Rattle.certificate_text.proofs.Digits.{digits-on, value-on}
use Rattle.certificate_text.proofs.numbers.read_number.Goals as goal

pub loop-digit-preserved : goal.loop-digit-preserved
loop-digit-preserved c =
    let digit = get_or c.args.text.now c.loop-digit.digit-index 0 in
    let next : c.min-number.result ≡ min MOST_NUMBER (c.loop-digit.number * 10 + (digit - 48)) = cc in
    record {
      small = omega (arith, next);
      digits = c.loop-digit.invariant.digits ∙ digits-on c.args.text.now c.loop-digit.digit-index c.loop-digit-test.true (sym c.if-not-is_ascii_digit.ensures.value);
      value = value-on c.args.text.now c.loop-digit.digit-index c.loop-digit.number _ _ c.loop-digit-test.true c.if-not-is_ascii_digit.ensures.bound next c.loop-digit.invariant.value;
    }
