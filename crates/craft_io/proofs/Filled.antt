-- What `fill` and `write_all` keep.
use Rattle.std.proofs.Common.{length, ◌+◌, ◌≡◌, ◌≤◌, ℕ, List, take}
use Rattle.craft_io.specs.Views.{Gains, Gives, SinkView, SourceView}

pub record Filled (before after : SourceView) (at room : ℕ) (buf : List ℕ) : Type 0 where
  pub kept : length buf ≡ room
  pub within : at ≤ room
  pub bytes : Gives (take at buf) before after
  pub quiet : after.faults ≡ before.faults
  pub counted : before.reads ≤ after.reads
  pub each : after.reads ≤ before.reads + at

pub record Written (before after : SinkView) (at : ℕ) (piece : List ℕ) : Type 0 where
  pub within : at ≤ length piece
  pub bytes : Gains (take at piece) before after
  pub quiet : after.faults ≡ before.faults
