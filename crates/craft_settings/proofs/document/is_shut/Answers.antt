use Rattle.std.proofs.Common.{ap, not}
use Rattle.toml.specs.View.{table_view}
use Rattle.craft_settings.specs.Document.{is_shut, section_data}
use Rattle.craft_settings.proofs.DocumentLemmas.{is_shut-other}
use Rattle.craft_settings.proofs.document.is_shut.Goals as goal

pub returns-in-Top : goal.returns-in-Top
unfolding is_shut section_data
returns-in-Top c = rw c.in-Top.is

pub returns-in-Some : goal.returns-in-Some
returns-in-Some c =
    let e = is_shut-other (table_view c.args.doc.now) _ c.in_default.not-Top in
    rw (e, ← c.name.ensures, ← c.in-Some.ensures) (ap not c.is_table.ensures)

pub returns-in-None : goal.returns-in-None
returns-in-None c =
    let e = is_shut-other (table_view c.args.doc.now) _ c.in_default.not-Top in
    rw (e, ← c.name.ensures, ← c.in-None.ensures)
