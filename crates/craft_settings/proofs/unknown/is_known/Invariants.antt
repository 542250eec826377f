use Rattle.std.proofs.Common.{◌≡◌}
use Rattle.std.specs.List.{list_any}
use Rattle.craft_settings.proofs.KeyLoops.{places_from}
use Rattle.craft_settings.specs.Keys.{row_of, places}
use Rattle.craft_settings.specs.Unknown.{is_row}
use Rattle.craft_settings.proofs.unknown.is_known.Given as goal

abbrev pub invariant-loop-place : goal.invariant-loop-place
invariant-loop-place l =
    list_any (λ p. is_row l.section l.name (row_of p)) (places_from l.two l.place)
    ≡ list_any (λ p. is_row l.section l.name (row_of p)) (places l.two)
