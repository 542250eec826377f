use Rattle.std.proofs.Common.{subst}
use Rattle.craft_settings.specs.Ranges.{AreSettings}
use Rattle.replay_report.proofs.Complete.{ran_at_most}
use Rattle.replay_report.proofs.replayed.replay_with.Goals as goal

pub table_text-requires-clause-short : goal.table_text-requires-clause-short
table_text-requires-clause-short c = ran_at_most c.args.g.now c.args.actions.now (subst AreSettings c.g.view_is c.g.invariant) c.requires
