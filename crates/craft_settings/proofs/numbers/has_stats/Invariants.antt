use Rattle.std.proofs.Common.{◌≡◌, drop, is_some}
use Rattle.std.specs.List.{list_any}
use Rattle.toml.specs.View.{table_view}
use Rattle.craft_settings.specs.Document.{value_at}
use Rattle.craft_settings.specs.Keys.{stats_places}
use Rattle.craft_settings.proofs.numbers.has_stats.Given as goal

abbrev pub invariant-loop-key : goal.invariant-loop-key
invariant-loop-key l = list_any (λ p. is_some (value_at (table_view l.doc) p)) (drop l.key-index l.key-items) ≡ list_any (λ p. is_some (value_at (table_view l.doc) p)) stats_places
