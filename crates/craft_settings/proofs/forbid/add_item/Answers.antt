use Rattle.craft_settings.specs.Names.{name_fault}
use Rattle.craft_settings.proofs.ForbidLemmas.{bit_at-set}
use Rattle.craft_settings.proofs.forbid.add_item.Goals as goal

pub returns-in-Some-action_of-clause-mask : goal.returns-in-Some-action_of-clause-mask
returns-in-Some-action_of-clause-mask c = λ n.
    rw (← c.in-Some.ensures, ← c.in-Some-action_of.ensures, ← c.number.ensures.value) (bit_at-set c.args.mask c.number.result n c.number.ensures.range)

pub returns-in-Some-action_of-clause-ok : goal.returns-in-Some-action_of-clause-ok
unfolding name_fault
returns-in-Some-action_of-clause-ok c =
    rw (← c.in-Some.ensures, ← c.in-Some-action_of.ensures)
