use Rattle.std.proofs.Common.{◌≡◌, ◌≤◌, ◌∙◌, ℕ, Option, Some, None, IfSome, ap, sym, subst, true, arith, cond}
use Rattle.std.specs.Result.{result_ok}
use Rattle.std.specs.Str.Parse.{digits_value}
use Rattle.std.proofs.lemmas.Str.Parse.{parse_gives}
use Rattle.sample_craft.specs.Sample.{most_number}
use Rattle.solve_words.specs.Values.{is_sample_number}
use Rattle.solve_words.proofs.Numbers.{numeral, number_facts}
use Rattle.solve_words.proofs.values.sample_number.Goals as goal

pub returns-then-is_sample_number : goal.returns-then-is_sample_number
returns-then-is_sample_number c =
    let text = c.args.text.now in
    let form : is_sample_number text ≡ true =
    ap is_sample_number (sym c.as_bytes.ensures.value) ∙ sym c.is_sample_number.ensures ∙ c.if-is_sample_number.true in
    let facts = number_facts text form in
    let gives = parse_gives numeral 32 text c.parse.result c.parse.ensures.value.0 facts.digits facts.some (omega (arith, facts.small)) in
    let is = c.ok.ensures.value ∙ (λ j. result_ok (gives j)) in
    record {
      value = is ∙ sym (ap (λ b. cond b (Some (digits_value 10 text)) None) form);
      range = subst (λ (o : Option ℕ). IfSome o (λ n. n ≤ most_number)) (sym is) (omega (arith, facts.small));
    }
