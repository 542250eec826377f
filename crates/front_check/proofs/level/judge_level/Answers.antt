use Rattle.std.proofs.Common.{sym, arith, subst, length, List, ◌+◌, ◌≤◌}
use Rattle.plain_lemmas.proofs.Tests.{clash}
use Rattle.prefix_fronts.specs.Prefix.{Prefix}
use Rattle.front_check.specs.declared.level.RowsEnd.TheVariants.{BrokenRow, Whole}
use Rattle.front_check.specs.Judging.{claim_of}
use Rattle.front_check.specs.Levels.{IsRowsEnd}
use Rattle.certificate_text.proofs.WordByWord.{from_on}
use Rattle.front_check.proofs.FromLevel.{no-line, other-line, last-reads, last-more, level-broken, level-whole, breaks-fit, rest-long, rest-is, is_none, next-long, coming-few, kept-go}
use Rattle.front_check.proofs.level.judge_level.Goals as goal
use Rattle.plain_lemmas.proofs.Numbers.{above_zero}

pub returns-in-None-clause-value : goal.returns-in-None-clause-value
returns-in-None-clause-value g c = no-line c.args.claimed.now.g.now (claim_of c.args.claimed.now) c.args.level.now.number c.args.level.now.kept.now c.args.text.now (sym c.in-None.ensures)

pub returns-then-not-begins-clause-value : goal.returns-then-not-begins-clause-value
returns-then-not-begins-clause-value g c =
    other-line c.args.claimed.now.g.now (claim_of c.args.claimed.now) c.args.level.now.number c.args.level.now.kept.now c.args.text.now c.in-Some.end (sym c.in-Some.ensures) (λ says. clash (c.in_ok-begins.ensures.1 says) c.if-not-begins.true)

pub returns-then-is_empty-clause-value : goal.returns-then-is_empty-clause-value
returns-then-is_empty-clause-value g c =
    last-reads c.args.claimed.now.g.now (claim_of c.args.claimed.now) c.args.level.now.number c.args.level.now.kept.now c.args.text.now c.in-Some.end (sym c.in-Some.ensures) (c.in_ok-begins.ensures.0 c.if-not-begins.false) c.if-count-eq0.true (omega (arith, rest-is c.args.text.now (c.in-Some.end + 1), is_none _ c.if-is_empty.ensures))

pub returns-then-count-eq0-clause-value : goal.returns-then-count-eq0-clause-value
returns-then-count-eq0-clause-value g c =
    last-more c.args.claimed.now.g.now (claim_of c.args.claimed.now) c.args.level.now.number c.args.level.now.kept.now c.args.text.now c.in-Some.end (sym c.in-Some.ensures) (c.in_ok-begins.ensures.0 c.if-not-begins.false) c.if-count-eq0.true (λ none. absurd (omega (arith, none, rest-is c.args.text.now (c.in-Some.end + 1), above_zero _ c.if-is_empty.ensures)))

pub look_ahead-requires : goal.look_ahead-requires
look_ahead-requires g c = kept-go c.args.claimed.now.g.now c.args.level.now.number c.args.level.now.kept.now c.requires.kept

pub judge_rows-requires-clause-next : goal.judge_rows-requires-clause-next
judge_rows-requires-clause-next g c =
    next-long c.args.claimed.now.g.now c.args.level.now.number c.args.level.now.kept.now c.in_ok-next.next.items c.as_slice-coming.result.now (from_on (c.in-Some.end + 1) c.args.text.now) c.requires.kept c.in_ok-next.ensures c.as_slice-coming.ensures.value

pub judge_rows-requires-clause-few : goal.judge_rows-requires-clause-few
judge_rows-requires-clause-few g c =
    coming-few c.args.claimed.now.g.now c.args.level.now.kept.now c.in_ok-next.next.items c.as_slice-coming.result.now c.args.text.now (c.in-Some.end + 1) c.requires.text c.in_ok-next.ensures c.as_slice-coming.ensures.value

pub overflow_add-result : goal.overflow_add-result
overflow_add-result g c =
    let broken = (rw c.in-BrokenRow.is at c.in_ok-rows.ensures).value in
    let least : c.in-BrokenRow.place ≤ length (from_on (c.in-Some.end + 1) c.args.text.now) = breaks-fit c.args.claimed.now.g.now _ (from_on (c.in-Some.end + 1) c.args.text.now) c.in-BrokenRow.place broken in
    let small : length (from_on (c.in-Some.end + 1) c.args.text.now) ≤ length c.args.text.now = rest-long c.args.text.now (c.in-Some.end + 1) in
    omega (arith, least, small, c.requires.text)

pub returns-in-BrokenRow-clause-value : goal.returns-in-BrokenRow-clause-value
returns-in-BrokenRow-clause-value g c =
    level-broken (claim_of c.args.claimed.now) c.args.level.now.number c.args.level.now.kept.now c.in_ok-next.next.items c.args.text.now c.in-Some.end c.in-BrokenRow.place (sym c.in-Some.ensures) (c.in_ok-begins.ensures.0 c.if-not-begins.false) c.if-count-eq0.false c.in_ok-next.ensures
    (subst (λ (ps : List Prefix). IsRowsEnd c.args.claimed.now.g.now (claim_of c.args.claimed.now) c.args.level.now.number c.args.level.now.kept.now ps (from_on (c.in-Some.end + 1) c.args.text.now) (BrokenRow c.in-BrokenRow.place)) c.as_slice-coming.ensures.value (rw c.in-BrokenRow.is at c.in_ok-rows.ensures).value)

pub returns-in-Whole-clause-value : goal.returns-in-Whole-clause-value
returns-in-Whole-clause-value g c =
    let rows = subst (λ (ps : List Prefix). IsRowsEnd c.args.claimed.now.g.now (claim_of c.args.claimed.now) c.args.level.now.number c.args.level.now.kept.now ps (from_on (c.in-Some.end + 1) c.args.text.now) (Whole c.in-Whole.from)) c.as_slice-coming.ensures.value (rw c.in-Whole.is at c.in_ok-rows.ensures).value in
    level-whole (claim_of c.args.claimed.now) c.args.level.now.number c.args.level.now.kept.now c.in_ok-next.next.items c.args.text.now c.in-Some.end c.in-Whole.from (sym c.in-Some.ensures) (c.in_ok-begins.ensures.0 c.if-not-begins.false) c.if-count-eq0.false c.requires.text c.requires.kept c.in_ok-next.ensures rows.0 rows.1
