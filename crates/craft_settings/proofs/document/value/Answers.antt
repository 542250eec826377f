use Rattle.std.proofs.Common.{◌≡◌, ◌∙◌, sym, ap}
use Rattle.toml.specs.Data.{get_member}
use Rattle.toml.specs.View.{table_view}
use Rattle.craft_settings.specs.declared.keys.Section.TheVariants.{Top}
use Rattle.craft_settings.specs.Keys.{Row, row_of}
use Rattle.craft_settings.proofs.DocumentLemmas.{value_at-top, value_at-other}
use Rattle.craft_settings.proofs.document.value.Goals as goal

pub returns-in-Top : goal.returns-in-Top
returns-in-Top c =
    let top : (row_of c.args.key).section ≡ Top = sym (ap (λ (r : Row). r.section) c.row-row.ensures) ∙ c.in-Top.is in
    c.held.ensures
    ∙ ap (λ (r : Row). get_member r.name (table_view c.args.doc.now)) c.row-row.ensures
    ∙ sym (value_at-top (table_view c.args.doc.now) c.args.key top)

pub returns-in-Some : goal.returns-in-Some
returns-in-Some c =
    let section : c.row-row.result.now.section ≡ (row_of c.args.key).section = ap (λ (r : Row). r.section) c.row-row.ensures in
    let name : c.row-row.result.now.name.now ≡ (row_of c.args.key).name = ap (λ (r : Row). r.name) c.row-row.ensures in
    let e = value_at-other (table_view c.args.doc.now) c.args.key (λ top. c.in_default.not-Top (section ∙ top)) in
    rw (e, ← section, ← name, ← c.name.ensures, ← c.in-Some.ensures) c.get.ensures

pub returns-in-None : goal.returns-in-None
returns-in-None c =
    let section : c.row-row.result.now.section ≡ (row_of c.args.key).section = ap (λ (r : Row). r.section) c.row-row.ensures in
    let e = value_at-other (table_view c.args.doc.now) c.args.key (λ top. c.in_default.not-Top (section ∙ top)) in
    rw (e, ← section, ← c.name.ensures, ← c.in-None.ensures)
