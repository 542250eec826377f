use Rattle.std.proofs.Common.{inl, refl}
use Rattle.macro_read.proofs.Names.{other_command}
use Rattle.macro_read.proofs.lines.quoted.Goals as goal

pub returns-in-Some : goal.returns-in-Some
returns-in-Some c = (_, inl refl, c.in-Some.ensures)

pub returns-in-None : goal.returns-in-None
returns-in-None c = other_command c.args.line.now _ c.in-None.ensures c.after-in-None.ensures
