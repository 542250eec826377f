-- The words of the reasons why an action isn't legal.
use Rattle.std.specs.Prelude.{ℕ, List, codes}
use Rattle.step_rules.specs.declared.legality.Illegal.{Illegal}
use Rattle.step_rules.specs.declared.legality.Illegal.TheVariants.{NotLearned, Forbidden, NotFirst, NoStacks, NotTen, UnderWaste, PerfectionSpent, NotEnoughCp, Finished, Backloaded}

-- the word of each reason
abbrev pub reason_word : Illegal → List ℕ
reason_word NotLearned = codes "not_learned"
reason_word Forbidden = codes "forbidden"
reason_word NotFirst = codes "not_first"
reason_word NoStacks = codes "no_stacks"
reason_word NotTen = codes "not_ten"
reason_word UnderWaste = codes "under_waste"
reason_word PerfectionSpent = codes "perfection_spent"
reason_word (NotEnoughCp has needs) = codes "not_enough_cp"
reason_word Finished = codes "finished"
reason_word Backloaded = codes "backloaded"
