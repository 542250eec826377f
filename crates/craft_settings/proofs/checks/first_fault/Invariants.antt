use Rattle.std.proofs.Common.{◌≡◌}
use Rattle.toml.specs.View.{table_view}
use Rattle.craft_settings.specs.Fault.{first_some}
use Rattle.craft_settings.proofs.KeyLoops.{places_from}
use Rattle.craft_settings.specs.Keys.{places}
use Rattle.craft_settings.specs.Steps.{fault_at}
use Rattle.craft_settings.proofs.checks.first_fault.Given as goal

abbrev pub invariant-loop-place : goal.invariant-loop-place
invariant-loop-place l =
    first_some (fault_at l.check (table_view l.doc)) (places_from l.two l.place)
    ≡ first_some (fault_at l.check (table_view l.doc)) (places l.two)
