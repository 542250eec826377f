use Rattle.std.proofs.Common.{◌≡◌, None, sym}
use Rattle.toml.specs.View.{table_view}
use Rattle.craft_settings.specs.declared.checks.Check.TheVariants.{Range}
use Rattle.craft_settings.specs.Fault.{first_some}
use Rattle.craft_settings.specs.Keys.{places}
use Rattle.craft_settings.specs.Steps.{fault_at}
use Rattle.craft_settings.proofs.RangeLemmas.{IsInRange-from}
use Rattle.craft_settings.proofs.reader.check_values.Goals as goal

pub returns-clause-in_range : goal.returns-clause-in_range
returns-clause-in_range c =
    let none : first_some (fault_at Range (table_view c.args.doc.now)) (places c.args.two) ≡ None =
    rw (← c.in_default-first_fault-2.is) (sym c.first_fault-3.ensures) in
    IsInRange-from c.args.two _ none
