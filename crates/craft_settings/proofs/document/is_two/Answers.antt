use Rattle.craft_settings.specs.Document.{is_two}
use Rattle.craft_settings.proofs.document.is_two.Goals as goal

pub returns-in-Some : goal.returns-in-Some
unfolding is_two
returns-in-Some c = rw (← c.in-Some.ensures, ← c.as_integer.ensures) c.eq.ensures

pub returns-in-None : goal.returns-in-None
unfolding is_two
returns-in-None c = rw (← c.in-None.ensures)
