use Rattle.std.proofs.Common.{rules, ◌≡◌, ◌∙◌, sym, ap, subst, refl, arith, ◌<◌, ◌≤◌, ◌^◌, ◌++◌, [], ◌∷◌, All, List, ℕ, Vec, length, string_bytes}
use Rattle.std.specs.declared.alloc.Global.{Global}
use Rattle.pareto_front.specs.declared.node.Node.{Node}
use Rattle.front_check.specs.Judging.{claim_of}
use Rattle.certificate_laws.specs.Made.{left_after}
use Rattle.certificate_maker.specs.Marks.{MayGoOn, level_marks, next_nodes}
use Rattle.certificate_maker.specs.Written.{IsWritten, IsLevelText}
use Rattle.certificate_maker.proofs.Levelled.{going-start, going-next, going-end}
use Rattle.certificate_maker.proofs.Tying.{low-level, may-go-on}
use Rattle.certificate_maker.proofs.levels.write_levels.Goals as goal

pub loop-number-init : goal.loop-number-init
loop-number-init g c = record {
  high = omega arith;
  going = going-start (claim_of c.args.claimed.now) c.push.new.self.items (string_bytes c.in_ok-text.text) c.requires.settings (c.in_ok-push.ensures.items ∙ (λ j. c.new-nodes.ensures.items j ++ c.root.ensures j ∷ [])) c.in_ok-text.ensures;
  bounds = refl;
}

pub returns-then-count-eq0 : goal.returns-then-count-eq0
returns-then-count-eq0 g c =
    let claim = claim_of c.args.claimed.now in
    let counts : c.len-count.result ≡ length c.loop-number.nodes.items = omega (arith, c.len-count.ensures) in
    let none : c.len-count.result ≡ 0 = search rules in
    let low : c.loop-number.number < 2 ^ 64 = omega (arith, c.loop-number.invariant.high) in
    subst (λ (bytes : Vec ℕ Global). IsWritten claim bytes.items) (sym c.into_bytes.ensures.value)
    (going-end claim c.loop-number.number c.len-count.result c.loop-number.nodes.items (string_bytes c.loop-number.text) (string_bytes c.push_level.new.text) counts none low c.in_ok-push_level.ensures c.loop-number.invariant.going)

pub write_level-requires-clause-nodes : goal.write_level-requires-clause-nodes
write_level-requires-clause-nodes g c κs within =
    let claim = claim_of c.args.claimed.now in
    let going = c.loop-number.invariant.going in
    subst (λ (ns : List Node). All (MayGoOn claim.g) ns) (sym c.as_slice.ensures.value) (may-go-on claim c.loop-number.number c.loop-number.nodes.items going.kept c.requires.settings going.stands)

pub loop-number-preserved : goal.loop-number-preserved
loop-number-preserved g c =
    let claim = claim_of c.args.claimed.now in
    let number = c.loop-number.number in
    let nodes = c.loop-number.nodes.items in
    let next = c.in_ok-nodes.nodes.items in
    let left = c.saturating_sub.result in
    let going = c.loop-number.invariant.going in
    let counts : c.len-count.result ≡ length nodes = omega (arith, c.len-count.ensures) in
    let some : 0 < c.len-count.result = search rules in
    let few : c.len-count.result < 2 ^ 64 = search rules in
    let low : number ≤ 272 = low-level claim number nodes going.kept c.requires.settings going.stands (omega (arith, counts, some)) in
    let lefts : left ≡ left_after claim number = omega (arith, c.saturating_sub.ensures) in
    let is : next ≡ next_nodes claim left nodes = c.in_ok-nodes.ensures.next ∙ ap (λ (ns : List Node). next_nodes claim left ns) c.as_slice.ensures.value in
    let said = subst (λ (ns : List Node). IsLevelText next (level_marks claim left ns) (string_bytes c.push_level.new.text) (string_bytes c.write_level.new.text)) c.as_slice.ensures.value c.in_ok-nodes.ensures.rows in
    record {
      high = omega (arith, low);
      going = going-next claim number left c.len-count.result nodes next (string_bytes c.loop-number.text) (string_bytes c.push_level.new.text) (string_bytes c.write_level.new.text) lefts counts some few (omega (arith, low)) c.in_ok-push_level.ensures is
          c.in_ok-nodes.ensures.few said going;
      bounds = c.write_level.ensures.still ∙ c.loop-number.invariant.bounds;
    }
