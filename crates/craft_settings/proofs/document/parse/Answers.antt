use Rattle.std.proofs.Common.{refl, inr}
use Rattle.std.proofs.lemmas.Bool.{false≢true}
use Rattle.craft_settings.proofs.DocumentLemmas.{document-text, document-none}
use Rattle.craft_settings.proofs.document.parse.Goals as goal

pub returns-in-Ok-clause-ok : goal.returns-in-Ok-clause-ok
returns-in-Ok-clause-ok c = let (text, read) = c.in-Ok.ensures.ok in document-text _ _ text read

pub returns-else-is_memory-clause-refused : goal.returns-else-is_memory-clause-refused
returns-else-is_memory-clause-refused c =
    inr (refl, document-none _ (c.in-Err.ensures.refused (λ m. false≢true (rw (← c.if-is_memory.false) (c.is_memory.ensures.1 m)))))
