use Rattle.std.proofs.Common.{◌≡◌, drop}
use Rattle.toml.specs.View.{items_view}
use Rattle.craft_settings.specs.Fault.{are_strings}
use Rattle.craft_settings.proofs.checks.are_strings.Given as goal

abbrev pub invariant-loop-item : goal.invariant-loop-item
invariant-loop-item l = are_strings (items_view (drop l.item-index l.items)) ≡ are_strings (items_view l.items)
