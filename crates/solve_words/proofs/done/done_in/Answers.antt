use Rattle.std.proofs.Common.{length, lit<}
use Rattle.std.proofs.lemmas.Iterator.Consumers.{YieldsList-end, YieldsList-turn}
use Rattle.std.proofs.lemmas.Iterator.Splits.{YieldsList-from_str_split}
use Rattle.solve_words.specs.Done.{comma}
use Rattle.solve_words.proofs.Listed.{all-named, one-unnamed}
use Rattle.solve_words.proofs.done.done_in.Goals as goal

pub returns-in_default : goal.returns-in_default
returns-in_default c =
    let road = YieldsList-from_str_split comma c.args.text.now (lit< tt) (cc) (cc) (cc) in
    let turn = YieldsList-turn road c.loop-name.yielded _ c.loop-name.yielded_by _ _ c.in-Some.name c.in-Some.is c.next.ensures.steps in
    one-unnamed c.args.text.now (length c.loop-name.yielded) c.in-Some.name.now turn (rw c.in_default.is at c.from_key.ensures)

pub returns : goal.returns
returns c =
    let road = YieldsList-from_str_split comma c.args.text.now (lit< tt) (cc) (cc) (cc) in
    let all = YieldsList-end road c.loop-name.yielded _ c.loop-name.yielded_by _ _ c.in-None.is c.next.ensures.steps in
    all-named c.args.text.now _ c.loop-name.actions.items all.0 c.loop-name.invariant
