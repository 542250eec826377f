use Rattle.std.proofs.Common.{subst}
use Rattle.craft_settings.specs.Ranges.{AreSettings}
use Rattle.step_rules.specs.Legality.{start_of}
use Rattle.replay_report.proofs.Complete.{at_most, completes-scored}
use Rattle.best_engine.proofs.best.text_of.Goals as goal

pub continuation-requires-clause-short : goal.continuation-requires-clause-short
continuation-requires-clause-short c =
    let g = c.args.g.now in
    at_most g c.args.actions.now (subst AreSettings c.g.view_is c.g.invariant) (completes-scored g (start_of g) c.args.actions.now _ c.requires.completes)
