use Rattle.std.proofs.Common.{◌≡◌, ◌∙◌, sym, subst, rules, List}
use Rattle.std.specs.Bool.{Decides}
use Rattle.std.proofs.lemmas.Slice.Eq.{slice_eq-Decides}
use denote.Enum.Bare.{same_true, true_same}
use Rattle.action_table.specs.contracts.action.Action.{the_type}
use Rattle.action_table.specs.declared.action.Action.{Action}
use Rattle.macro_order.specs.Order.{IsBest}
use Rattle.solve_engine.proofs.check.is_best.Goals as goal

pub returns-in-Some : goal.returns-in-Some
returns-in-Some g c =
    let best = c.in-Some.best.items in
    let own = c.args.pasted.now.actions.items in
    let craft = c.args.pasted.now.craft in
    let is_best = rw c.in-Some.is at c.in_ok-best.ensures in
    let same : Decides c.eq.result (c.as_slice.result.now ≡ c.as_slice-in-Some.result.now) =
    slice_eq-Decides (λ a b. (same_true the_type (search rules) a b, true_same the_type a b)) _ _ _ c.eq.ensures in (
      λ equal.
          let lists : best ≡ own = sym c.as_slice.ensures.value ∙ same.0 equal ∙ c.as_slice-in-Some.ensures.value in
          subst (λ (m : List Action). IsBest craft m) lists is_best,
      λ other. same.1 (c.as_slice.ensures.value ∙ c.one_is_best.ensures craft best own is_best other ∙ sym c.as_slice-in-Some.ensures.value),
    )
