use Rattle.std.proofs.Common.{◌∙◌, ap, sym}
use Rattle.std.proofs.lemmas.Bool.{false≢true}
use Rattle.toml.specs.View.{table_view}
use Rattle.craft_settings.specs.Fault.{first_some}
use Rattle.craft_settings.specs.Keys.{has_key}
use Rattle.craft_settings.specs.Steps.{fault_at}
use Rattle.craft_settings.proofs.KeyLoops.{places_from-start, first_some-next}
use Rattle.craft_settings.proofs.checks.first_fault.Goals as goal
use Rattle.craft_settings.proofs.checks.first_fault.Goals.{then-is_in+in_default, else-is_in}

pub loop-place-init : goal.loop-place-init
loop-place-init c = ap (first_some (fault_at c.args.check (table_view c.args.doc.now))) (places_from-start c.args.two)

pub loop-place-preserved : goal.loop-place-preserved
loop-place-preserved c =
    first_some-next (fault_at c.args.check (table_view c.args.doc.now)) c.args.two c.loop-place.place c.loop-place-test.true (λ has. elim c.if-is_in.branch [
      | then-is_in+in_default w ↦ rw (← c.new-key.ensures) (sym w.fault_at.ensures ∙ w.in_default.is)
      | else-is_in w ↦ absurd (false≢true (sym w.if-is_in.false ∙ c.is_in.ensures ∙ ap (has_key c.args.two) c.new-key.ensures ∙ has))
    ]) ∙ c.loop-place.invariant
