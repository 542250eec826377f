use Rattle.toml.specs.View.{table_view}
use Rattle.craft_settings.specs.Document.{section_data}
use Rattle.craft_settings.proofs.DocumentLemmas.{section_data-other}
use Rattle.craft_settings.proofs.unknown.table_in.Goals as goal

pub returns-in-Top : goal.returns-in-Top
unfolding section_data
returns-in-Top c = rw c.in-Top.is

pub returns-in-Some : goal.returns-in-Some
returns-in-Some c =
    rw (section_data-other (table_view c.args.doc.now) _ c.in_default.not-Top, ← c.name.ensures, ← c.in-Some.ensures) c.as_table.ensures

pub returns-in-None : goal.returns-in-None
returns-in-None c =
    rw (section_data-other (table_view c.args.doc.now) _ c.in_default.not-Top, ← c.name.ensures, ← c.in-None.ensures)
