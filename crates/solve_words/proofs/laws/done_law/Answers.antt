use Rattle.solve_words.proofs.Listed.{listed, lists}
use Rattle.solve_words.proofs.laws.done_law.Goals as goal

pub returns : goal.returns
returns c = λ text done. (listed text done, lists text done)
