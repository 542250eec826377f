use Rattle.solve_engine.proofs.Resumed.{completes-rest, short-rest}
use Rattle.solve_engine.proofs.resume.rest_text.Goals as goal

pub continuation-requires-clause-complete : goal.continuation-requires-clause-complete
continuation-requires-clause-complete c =
    let craft = c.args.craft.now in
    completes-rest craft.g.now craft.done.now c.args.rest.now craft.from craft.after.ran c.requires

pub continuation-requires-clause-short : goal.continuation-requires-clause-short
continuation-requires-clause-short c =
    let craft = c.args.craft.now in
    short-rest craft.g.now craft.done.now c.args.rest.now craft.after.is_open.within.settings c.requires
