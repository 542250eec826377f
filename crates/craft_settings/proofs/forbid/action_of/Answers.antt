use Rattle.std.proofs.Common.{sym, ◌∙◌}
use Rattle.craft_settings.proofs.ActionNames.{action_of-known, action_of-new, action_of-none}
use Rattle.craft_settings.proofs.forbid.action_of.Goals as goal

pub returns-then-knows : goal.returns-then-knows
returns-then-knows c =
    sym (action_of-known c.args.two c.in-Some.action c.args.name.now c.in-Some.ensures (sym c.knows.ensures ∙ c.if-knows.true))

pub returns-else-knows : goal.returns-else-knows
returns-else-knows c =
    sym (action_of-new c.args.two c.in-Some.action c.args.name.now c.in-Some.ensures (sym c.knows.ensures ∙ c.if-knows.false))

pub returns-in-None : goal.returns-in-None
returns-in-None c = sym (action_of-none c.args.two c.args.name.now c.in-None.ensures)
