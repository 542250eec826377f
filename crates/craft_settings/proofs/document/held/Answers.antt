use Rattle.toml.proofs.Views.{table_get}
use Rattle.craft_settings.proofs.document.held.Goals as goal

pub returns : goal.returns
returns c = table_get c.get.result c.args.name.now c.args.doc.now.entries c.get.ensures.value
