-- Progress and effects as one number.
use Rattle.std.specs.Prelude.{ℕ, ◌+◌, ◌*◌, ◌^◌}
use Rattle.craft_state.specs.Craft.{StateFields}
use Rattle.craft_state.specs.Pack.{pack_of}

-- progress, then the packed effects as the lowest 28 bits
unfoldable pub key_of : StateFields → ℕ
key_of s = s.progress * 2 ^ 28 + pack_of s.effects
