use Rattle.std.proofs.Common.{◌≡◌, drop}
use Rattle.certificate_maker.specs.Rivals.{first_over}
use Rattle.certificate_maker.proofs.rivals.first_of.Given as goal

abbrev pub invariant-loop-rival : goal.invariant-loop-rival
invariant-loop-rival l = first_over (drop l.rival-index l.rivals) l.c ≡ first_over l.rivals l.c
