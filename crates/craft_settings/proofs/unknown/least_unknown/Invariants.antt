use Rattle.std.proofs.Common.{◌≡◌}
use Rattle.toml.specs.View.{members_view}
use Rattle.craft_settings.specs.Unknown.{is_known}
use Rattle.craft_settings.proofs.UnknownLemmas.{first_unknown}
use Rattle.craft_settings.proofs.unknown.least_unknown.Given as goal

abbrev pub invariant-loop-key : goal.invariant-loop-key
invariant-loop-key l = first_unknown (is_known l.two l.section) (members_view l.key-iterator) ≡ first_unknown (is_known l.two l.section) (members_view l.table.entries)
