use Rattle.std.proofs.Common.{rules, refl, inl, inr}
use Rattle.craft_io.proofs.memory.MemorySinkSink.write.Goals as goal
use Rattle.craft_io.proofs.memory.MemorySinkSink.write.Goals.{then-contains-via-then-contains, then-contains-via-else-contains+then-self}

pub returns-then-contains-clause-fails : goal.returns-then-contains-clause-fails
returns-then-contains-clause-fails c =
    (λ _. elim c.then-contains.branch [ then-contains-via-then-contains w ↦ inl (search rules) | then-contains-via-else-contains+then-self w ↦ inr (search rules) ], λ _. refl)
