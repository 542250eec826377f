-- How long the text of blocks is at most.
use Rattle.std.proofs.Common.{◌≡◌, ◌<◌, ◌≤◌, ◌+◌, ◌*◌, ◌∷◌, [], ℕ, true, ltb, suc, zero, List, length, drop, ◌∙◌, ap, refl, arith}
use Rattle.std.proofs.lemmas.Bool.{ltb-true}
use Rattle.std.proofs.lemmas.Fmt.{length-decimal-le}
use Rattle.std.proofs.lemmas.List.{length-append, length-take}
use Rattle.std.specs.Fmt.{decimal}
use Rattle.std.specs.Fork.{slice_chunk}
use Rattle.std.specs.List.{flat_map}
use Rattle.action_table.specs.declared.action.Action.{Action}
use Rattle.action_table.specs.declared.action.Action.TheVariants.{BasicSynthesis}
use Rattle.action_table.specs.Table.{display_name_of}
use Rattle.macro_text.proofs.Cuts.{below-more}
use Rattle.macro_text.specs.Blocks.{action_line, block_count, block_length, block_text, blocks_below, blocks_of, macro_line}
use Rattle.action_table.specs.Table.{action_seconds}
use Rattle.macro_read.proofs.Written.{few_seconds}

short_name : (action : Action) → ltb (length (display_name_of action)) 20 ≡ true
short_name BasicSynthesis = refl
short_name _ = refl

size-line : (action : Action) → length (action_line action) ≤ 40
size-line action =
    let seconds : ℕ = action_seconds action in
    let few : seconds < 10 = ltb-true seconds 10 (few_seconds action) in
    let name : length (display_name_of action) < 20 = ltb-true (length (display_name_of action)) 20 (short_name action) in
    let digits : length (decimal seconds) ≤ 1 = length-decimal-le 1 seconds (omega arith) (omega arith) (omega arith) in
    simp length-append (omega arith)

size-heading : (number : ℕ) → number < 1000 → length (macro_line number) ≤ 20
size-heading number few =
    let digits : length (decimal number) ≤ 3 = length-decimal-le 3 number (omega arith) (omega arith) (omega arith) in
    simp length-append (omega arith)

size-lines : (actions : List Action) → length (flat_map action_line actions) ≤ 40 * length actions
size-lines [] = omega arith
size-lines (action ∷ actions) =
    let here : length (action_line action) ≤ 40 = size-line action in
    let later : length (flat_map action_line actions) ≤ 40 * length actions = size-lines actions in
    omega (arith, length-append (action_line action) (flat_map action_line actions))

size-block : (number : ℕ) (actions : List Action) → number < 1000 → length actions ≤ 15 → length (block_text number actions) ≤ 620
size-block number actions few short =
    let heading : length (macro_line number) ≤ 20 = size-heading number few in
    let lines : length (flat_map action_line actions) ≤ 40 * length actions = size-lines actions in
    omega (arith, length-append (macro_line number) (flat_map action_line actions))

size-below : (actions : List Action) (n : ℕ) → n < 1000 → length (blocks_below actions n) ≤ 620 * n
size-below actions zero few = omega arith
size-below actions (suc n) few =
    let chunk : List Action = slice_chunk actions block_length n in
    let next : suc n ≡ n + 1 = omega arith in
    let before : length (blocks_below actions n) ≤ 620 * n = size-below actions n (omega arith) in
    let short : length chunk ≤ 15 = omega (arith, length-take block_length (drop (n * block_length) actions)) in
    let block : length (block_text (n + 1) chunk) ≤ 620 = size-block (n + 1) chunk (omega arith) short in
    let whole : length (blocks_below actions (suc n)) ≡ length (blocks_below actions n) + length (block_text (n + 1) chunk) =
    ap length (ap (blocks_below actions) next ∙ below-more actions n) ∙ length-append (blocks_below actions n) (block_text (n + 1) chunk) in
    omega arith

-- the blocks of at most 1000 actions have fewer bytes than a text may have
pub size-blocks : (actions : List Action) → length actions ≤ 1000 → length (blocks_of actions) ≤ 65536
size-blocks actions few =
    let count : block_count actions ≤ 67 = omega arith in
    let size : length (blocks_of actions) ≤ 620 * block_count actions = size-below actions (block_count actions) (omega arith) in
    omega arith
