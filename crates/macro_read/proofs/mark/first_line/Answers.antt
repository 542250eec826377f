use Rattle.std.proofs.Common.{◌∙◌, ap, sym, take}
use Rattle.macro_read.proofs.Marks.{found-length, none-length}
use Rattle.macro_read.proofs.mark.first_line.Goals as goal

pub returns-in-Some : goal.returns-in-Some
returns-in-Some c = ap (λ n. take n c.args.text.now) (sym (found-length c.args.text.now c.in-Some.end (sym c.first_place.ensures ∙ c.in-Some.is)))

pub returns-in-None : goal.returns-in-None
returns-in-None c = sym (none-length c.args.text.now (sym c.first_place.ensures ∙ c.in-None.is))
