use Rattle.std.proofs.Common.{◌==◌, ◌+◌, map, sym, refl, subst, arith, rules, tests}
use Rattle.std.proofs.lemmas.Iterator.Consumers.{YieldsList-so_far, YieldsList-turn, YieldsList-end}
use Rattle.std.proofs.lemmas.Iterator.Splits.{YieldsList-from_slice_split}
use Rattle.std.proofs.lemmas.List.{length_push}
use Rattle.std.specs.Str.Lines.{strip_carriage_return}
use Rattle.macro_read.specs.Lines.{line_end, lines_of}
use Rattle.macro_read.specs.Reading.{AllName, IsFirstOfNoKind, IsUnderstood}
use Rattle.macro_read.proofs.Once.{same_actions, named-line, first-here, fits-apart, names_none}
use Rattle.macro_read.proofs.macro_of.Goals as goal

pub loop-line-preserved-in-Continue-1 : goal.loop-line-preserved-in-Continue-1
loop-line-preserved-in-Continue-1 c = record {
  count = omega (arith, length_push c.loop-line.yielded c.in-Some.line);
  named = named-line c.loop-line.yielded c.in-Some.line c.loop-line.actions.items c.push.new.self.items _ _ _ c.loop-line.invariant.named
      c.in-Some-kind_of.ensures c.without_return.ensures c.in-Names.is c.in_ok-push.ensures.items;
}

pub loop-line-preserved : goal.loop-line-preserved
loop-line-preserved c = record {
  count = omega (arith, length_push c.loop-line.yielded c.in-Some.line);
  named = named-line c.loop-line.yielded c.in-Some.line c.loop-line.actions.items c.loop-line.actions.items _ _ _ c.loop-line.invariant.named
      c.in-Some-kind_of.ensures c.without_return.ensures refl (names_none _ _ c.in_default.not-Names);
}

pub returns-in-None-kind_of-clause-fault : goal.returns-in-None-kind_of-clause-fault
returns-in-None-kind_of-clause-fault c =
    let road = YieldsList-from_slice_split _ (λ byte. byte == line_end) c.args.bytes.now (cc) (cc) (cc) (λ x r q k. search (rules, tests)) in
    let so_far = YieldsList-so_far road c.loop-line.yielded _ c.loop-line.yielded_by in
    let turn = YieldsList-turn road c.loop-line.yielded _ c.loop-line.yielded_by _ _ c.in-Some.line c.in-Some.is c.next.ensures.steps in
    let here = first-here c.args.bytes.now c.loop-line.yielded c.in-Some.line c.loop-line.actions.items so_far turn c.loop-line.invariant.named
    (subst (λ l. IsUnderstood l → ⊥) c.without_return.ensures c.in-None-kind_of.ensures) in
    let bad : IsFirstOfNoKind (lines_of c.args.bytes.now) (c.loop-line.number + 1) =
    subst (λ n. IsFirstOfNoKind (lines_of c.args.bytes.now) (n + 1)) (sym c.loop-line.invariant.count) here in
    (bad, λ actions is. fits-apart _ actions _ is bad)

pub returns-clause-ok : goal.returns-clause-ok
returns-clause-ok c =
    let road = YieldsList-from_slice_split _ (λ byte. byte == line_end) c.args.bytes.now (cc) (cc) (cc) (λ x r q k. search (rules, tests)) in
    let all = YieldsList-end road c.loop-line.yielded _ c.loop-line.yielded_by _ _ c.in-None.is c.next.ensures.steps in
    let fits : AllName (lines_of c.args.bytes.now) c.loop-line.actions.items =
    subst (λ parts. AllName (map strip_carriage_return parts) c.loop-line.actions.items) all.0 c.loop-line.invariant.named in
    λ actions. (λ is. same_actions _ _ _ is fits, λ same. subst (AllName (lines_of c.args.bytes.now)) (sym same) fits)
