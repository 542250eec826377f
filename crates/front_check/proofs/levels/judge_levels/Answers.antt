use Rattle.std.proofs.Common.{◌≡◌, ◌∙◌, arith, subst, length, List, [], ◌∷◌, ◌≤◌}
use Rattle.prefix_fronts.specs.Prefix.{Prefix, empty_prefix}
use Rattle.certificate_text.proofs.WordByWord.{from_on}
use Rattle.certificate_laws.specs.Lines.{heading}
use Rattle.front_check.specs.declared.level.LevelEnd.TheVariants.{Next}
use Rattle.front_check.specs.Judging.{claim_of}
use Rattle.front_check.specs.Levels.{IsLevelEnd}
use Rattle.front_check.proofs.FromLevel.{breaks-fit, rest-long}
use Rattle.front_check.proofs.LevelByLevel.{low-level, passed-inside, level-leads}
use Rattle.front_check.proofs.levels.judge_levels.Goals as goal

pub overflow_add-result : goal.overflow_add-result
overflow_add-result g c =
    let broken = (rw c.in-Broken.is at c.in_ok-end.ensures).value in
    let least : c.in-Broken.place ≤ length (from_on c.loop-number.from c.args.text.now) = breaks-fit c.args.claimed.now.g.now _ (from_on c.loop-number.from c.args.text.now) c.in-Broken.place broken in
    let small : length (from_on c.loop-number.from c.args.text.now) ≤ length c.args.text.now = rest-long c.args.text.now c.loop-number.from in
    omega (arith, least, small, c.requires.text, c.loop-number.invariant.high, c.loop-number.invariant.lines)

pub loop-number-preserved : goal.loop-number-preserved
loop-number-preserved g c =
    let claim = claim_of c.args.claimed.now in
    let next = subst (λ (ps : List Prefix). IsLevelEnd c.args.claimed.now.g.now claim c.loop-number.number ps (from_on c.loop-number.from c.args.text.now) (Next c.in-Next.next c.in-Next.passed)) c.as_slice.ensures.value (rw c.in-Next.is at c.in_ok-end.ensures).value in
    let low : c.loop-number.number ≤ 272 = low-level c.args.claimed.now.g.now c.loop-number.number c.loop-number.kept.items c.loop-number.invariant.kept next.some in
    let count : c.len.result ≡ length c.loop-number.kept.items = omega (arith, c.len.ensures) in
    record {
      high = omega (arith, low);
      inside = passed-inside c.args.text.now c.loop-number.from c.in-Next.passed c.loop-number.invariant.inside next.inside;
      few = next.few;
      lines = omega (arith, c.loop-number.invariant.lines, c.loop-number.invariant.few, c.len.ensures);
      kept = next.kept_next;
      leads = level-leads claim (heading claim 0 (empty_prefix c.args.claimed.now.g.now ∷ [])) c.loop-number.number c.loop-number.kept.items c.in-Next.next.items c.args.text.now c.loop-number.from c.in-Next.passed c.loop-number.lines c.len.result count c.loop-number.invariant.leads next;
      bounds = c.judge_level.ensures.still ∙ c.loop-number.invariant.bounds;
    }
