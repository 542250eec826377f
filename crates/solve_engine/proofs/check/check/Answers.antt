use Rattle.solve_engine.specs.Check.{ChecksTo}
use Rattle.solve_engine.proofs.Inputs.{answered_input}
use Rattle.solve_engine.proofs.check.check.Goals as goal

pub returns : goal.returns
returns g c =
    let pasted = c.in_ok-pasted.pasted in
    answered_input (ChecksTo c.args.given.now.grain) c.args.input.now pasted.craft pasted.actions.items c.in_ok-checked.field-0
    c.in_ok-pasted.ensures.found c.in_ok-checked.ensures
