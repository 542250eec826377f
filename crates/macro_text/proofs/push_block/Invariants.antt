use Rattle.std.proofs.Common.{◌≡◌, ◌++◌, drop, string_bytes}
use Rattle.std.specs.List.{flat_map}
use Rattle.macro_text.specs.Blocks.{block_text, action_line}
use Rattle.macro_text.proofs.push_block.Given as goal

-- what is written, and the lines of the actions left, make the whole block
abbrev pub invariant-loop-action : goal.invariant-loop-action
invariant-loop-action l = string_bytes l.text ++ flat_map action_line (drop l.action-index l.block) ≡ string_bytes l.fn.text ++ block_text l.fn.number l.block
