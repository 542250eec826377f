use Rattle.std.proofs.Common.{◌≡◌, ◌≤◌, ◌+◌, ◌*◌, ◌++◌, ℕ, List, length, min, drop, take, sym, ap, ◌∙◌, arith, rules, length-drop}
use Rattle.std.specs.Slice.Iter.{chunks_rest}
use Rattle.action_table.specs.declared.action.Action.{Action}
use Rattle.macro_text.specs.Blocks.{blocks_below, block_text, block_length}
use Rattle.macro_text.proofs.Cuts.{front_is, rest_is, rest-next, below-more, count_is}
use Rattle.macro_text.proofs.blocks.Goals as goal

pub loop-block-preserved : goal.loop-block-preserved
loop-block-preserved c =
    let before = c.loop-block.invariant in
    let steps = c.in-Some.ensures.steps in
    let actions = c.args.actions.now in
    let block = c.in-Some.block.now in
    let n = c.loop-block.number in
    let left = chunks_rest c.loop-block.block-iterator in
    let long : length block ≡ min block_length (length left) = rw before.size at steps.1.1 in
    let here : block ≡ take block_length (drop (n * block_length) actions) = front_is block_length left block _ steps.1.0 long ∙ ap (take block_length) before.rest in
    record {
      can_next = search rules;
      is_finite = tt;
      size = steps.0 ∙ before.size;
      rest = rest_is block_length left block _ steps.1.0 long ∙ ap (drop block_length) before.rest ∙ rest-next actions n;
      needed = omega (arith, ap length before.rest, length-drop (n * block_length) actions, steps.1.2);
      text = c.in_ok-push_block.ensures ∙ ap (λ (t : List ℕ). t ++ block_text (n + 1) block) before.text
          ∙ ap (λ (b : List Action). blocks_below actions n ++ block_text (n + 1) b) here ∙ sym (below-more actions n);
    }

pub returns : goal.returns
returns c =
    let before = c.loop-block.invariant in
    let actions = c.args.actions.now in
    let n = c.loop-block.number in
    let none : length actions ≤ n * block_length = omega (arith, ap length before.rest, length-drop (n * block_length) actions, c.in-None.ensures.steps.1.0) in
    ap (λ v. v.items) c.into_bytes.ensures.value ∙ before.text ∙ ap (blocks_below actions) (count_is n (length actions) none before.needed)
