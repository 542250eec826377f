use Rattle.craft_settings.specs.Document.{is_stats}
use Rattle.std.proofs.Common.{rules}
use Rattle.craft_settings.proofs.document.is_stats.Goals as goal

pub returns : goal.returns
unfolding is_stats
returns c = rw (← c.held.ensures) (search rules)
