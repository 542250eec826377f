use Rattle.std.proofs.Common.{◌<◌, ◌∙◌, sym, ap, slice_index_or, arith, length}
use Rattle.std.proofs.lemmas.List.{get_or-map, length-map}
use Rattle.craft_settings.specs.Inside.{row_seen}
use Rattle.craft_settings.specs.Keys.{rows, row_of, no_row}
use Rattle.craft_settings.proofs.keys.Key.row.Goals as goal

pub returns : goal.returns
unfolding row_of rows
returns c =
    let inside : c.from.result < length c.rows.result.now =
    omega (arith, ap length c.rows.ensures, length-map c.rows.result.now row_seen, c.from.ensures, c.self.invariant) in
    sym (get_or-map row_seen c.rows.result.now c.from.result _ no_row inside)
    ∙ ap (λ seen. slice_index_or seen c.from.result no_row) c.rows.ensures
    ∙ ap row_of (c.from.ensures ∙ c.self.view_is)
