-- The text of a macro, in blocks that the game takes. A block has the line `macro i`, where i
-- counts the blocks from 1, and then a line `/ac "Name" <wait.s>` for each of its actions.
use Rattle.std.specs.Prelude.{ℕ, ◌+◌, List, ◌++◌, length, codes}
use Rattle.std.specs.Fork.{slice_chunk}
use Rattle.std.specs.Int.{div_ceil}
use Rattle.std.specs.List.{flat_map, range_with_len}
use Rattle.std.specs.Fmt.{decimal}
use Rattle.action_table.specs.Table.{display_name_of, action_seconds}
use Rattle.action_table.specs.declared.action.Action.{Action}

-- how many actions a block takes; the last block may have fewer
abbrev pub block_length : ℕ
block_length = 15

-- the line that begins a block
abbrev pub macro_line : ℕ → List ℕ
macro_line i = codes "macro " ++ (decimal i ++ codes "\n")

-- the line of an action, with its display name and its seconds
abbrev pub action_line : Action → List ℕ
action_line action = codes "/ac \"" ++ (display_name_of action ++ (codes "\" <wait." ++ (decimal (action_seconds action) ++ codes ">\n")))

-- the text of the block with this number
abbrev pub block_text : ℕ → List Action → List ℕ
block_text number actions = macro_line number ++ flat_map action_line actions

-- how many blocks the actions make
abbrev pub block_count : List Action → ℕ
block_count actions = div_ceil (length actions) block_length

-- the text of so many blocks: the actions are cut into fifteens, and each fifteen has its number, from 1 on
abbrev pub blocks_below : List Action → ℕ → List ℕ
blocks_below actions count = flat_map (λ i. block_text (i + 1) (slice_chunk actions block_length i)) (range_with_len 0 count)

-- the text of all actions
abbrev pub blocks_of : List Action → List ℕ
blocks_of actions = blocks_below actions (block_count actions)
