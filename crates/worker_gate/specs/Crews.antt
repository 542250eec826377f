-- What a crew is to its callers.
use Rattle.std.specs.Prelude.{List}

-- the gate that each worker passes, and the workers in order
pub record CrewFields (G W : Type 0) : Type 0 where
  pub gate : G
  pub workers : List W
