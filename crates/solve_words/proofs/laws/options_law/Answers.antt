use Rattle.solve_words.proofs.OptionForm.{options-exactly}
use Rattle.solve_words.proofs.laws.options_law.Goals as goal

pub returns : goal.returns
returns c = options-exactly
