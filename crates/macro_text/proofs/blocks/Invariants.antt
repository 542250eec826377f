use Rattle.std.proofs.Common.{◌≡◌, ◌+◌, ◌*◌, ◌<◌, length, drop, string_bytes}
use Rattle.std.specs.Slice.Iter.{chunks_rest, chunks_size}
use Rattle.macro_text.specs.Blocks.{blocks_below, block_length}
use Rattle.macro_text.proofs.blocks.Given as goal

-- so many blocks are written, and the actions left begin where they end
abbrev pub invariant-loop-block : goal.invariant-loop-block
invariant-loop-block l = record {
  can_next : goal.iterator-loop-block.can_next l.block-iterator;
  is_finite : goal.iterator-loop-block.is_finite l.block-iterator;
  size : chunks_size l.block-iterator ≡ block_length;
  rest : chunks_rest l.block-iterator ≡ drop (l.number * block_length) l.actions;
  needed : l.number * block_length < length l.actions + block_length;
  text : string_bytes l.text ≡ blocks_below l.actions l.number;
}
