use Rattle.priced_laws.proofs.Reached.{worth-run}
use Rattle.priced_laws.proofs.worth_law.Goals as goal

pub returns : goal.returns
returns c = λ p g s t actions j fair leads some. worth-run p g s t actions j fair leads.within leads.ran leads.live some
