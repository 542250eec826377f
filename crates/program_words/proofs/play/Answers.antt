use Rattle.std.proofs.Common.{inr}
use Rattle.program_words.proofs.play.Goals as goal

pub returns-clause-ran : goal.returns-clause-ran
returns-clause-ran g c = inr (_, _, _, _, c.run.result, _, _, _, c.run.ensures, c.code-2.ensures)
