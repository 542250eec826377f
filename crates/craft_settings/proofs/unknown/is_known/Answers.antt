use Rattle.std.proofs.Common.{◌∙◌, ap, sym}
use Rattle.std.proofs.lemmas.Bool.{false≢true}
use Rattle.std.specs.List.{list_any}
use Rattle.craft_settings.specs.Keys.{has_key, row_of}
use Rattle.craft_settings.specs.Unknown.{is_row}
use Rattle.craft_settings.proofs.KeyLoops.{places_from-start, list_any-next}
use Rattle.craft_settings.proofs.unknown.is_known.Goals as goal
use Rattle.craft_settings.proofs.unknown.is_known.Goals.{else-is_in-via-then-is_in+else-is_key, else-is_in-via-else-is_in}

pub loop-place-init : goal.loop-place-init
loop-place-init c = ap (list_any (λ p. is_row c.args.section c.args.name.now (row_of p))) (places_from-start c.args.two)

pub loop-place-preserved : goal.loop-place-preserved
loop-place-preserved c =
    list_any-next (λ p. is_row c.args.section c.args.name.now (row_of p)) c.args.two c.loop-place.place c.loop-place-test.true (λ has. elim c.else-is_in.branch [
      | else-is_in-via-then-is_in+else-is_key w ↦ rw (← c.new-key.ensures) (sym w.is_key.ensures ∙ w.if-is_key.false)
      | else-is_in-via-else-is_in w ↦ absurd (false≢true (sym w.if-is_in.false ∙ c.is_in.ensures ∙ ap (has_key c.args.two) c.new-key.ensures ∙ has))
    ]) ∙ c.loop-place.invariant
