use Rattle.std.proofs.Common.{◌≡◌, ◌≢◌, ◌<◌, ◌∙◌, sym, get_or, subst, ⊎_elim}
use Rattle.action_table.proofs.Names.{number_at, number_of-injective}
use Rattle.action_table.specs.declared.action.Action.{Action}
use Rattle.action_table.specs.declared.action.Action.TheVariants.{BasicSynthesis}
use Rattle.action_table.specs.Table.{number_of, display_name_of, all_actions}
use Rattle.plain_lemmas.proofs.Tests.{below_or_at}
use Rattle.macro_read.proofs.Names.{other_name}
use Rattle.macro_read.proofs.lines.action_named.Goals as goal

pub loop-action-preserved : goal.loop-action-preserved
loop-action-preserved c = λ action below.
    let n = c.loop-action.action-index in
    let here = number_at n BasicSynthesis c.loop-action-test.true in
    let other : display_name_of (get_or all_actions n BasicSynthesis) ≢ c.args.name.now =
    other_name (get_or all_actions n BasicSynthesis) c.as_bytes.result.now c.args.name.now (c.as_bytes.ensures.value ∙ c.display_name.ensures) (sym c.eq.ensures ∙ c.if-eq.false) in
    ⊎_elim (λ less. c.loop-action.invariant action less)
    (λ at. subst (λ a. display_name_of a ≢ c.args.name.now) (number_of-injective _ action (here ∙ sym at)) other)
    (below_or_at (number_of action) n below)
