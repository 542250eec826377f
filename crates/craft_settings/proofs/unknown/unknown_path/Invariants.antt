use Rattle.std.proofs.Common.{◌≡◌, drop}
use Rattle.toml.specs.View.{table_view}
use Rattle.craft_settings.specs.Fault.{first_some}
use Rattle.craft_settings.specs.Unknown.{unknown_in, is_known, sections}
use Rattle.craft_settings.proofs.unknown.unknown_path.Given as goal

abbrev pub invariant-loop-section : goal.invariant-loop-section
invariant-loop-section l = first_some (unknown_in (is_known l.two) (table_view l.doc)) (drop l.section-index l.section-items) ≡ first_some (unknown_in (is_known l.two) (table_view l.doc)) sections
