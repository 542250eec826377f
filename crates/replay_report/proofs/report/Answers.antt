use Rattle.std.proofs.Common.{subst}
use Rattle.craft_settings.specs.Ranges.{AreSettings}
use Rattle.replay_report.proofs.Complete.{at_most}
use Rattle.replay_report.proofs.report.Goals as goal

pub states_of-requires : goal.states_of-requires
states_of-requires c = λ none. let ran = c.requires.complete.ran in cc

pub table_text-requires-clause-short : goal.table_text-requires-clause-short
table_text-requires-clause-short c = at_most c.args.g.now c.args.actions.now (subst AreSettings c.g.view_is c.g.invariant) c.requires.complete

pub first_line-requires-clause-short : goal.first_line-requires-clause-short
first_line-requires-clause-short c = at_most c.args.g.now c.args.actions.now (subst AreSettings c.g.view_is c.g.invariant) c.requires.complete
