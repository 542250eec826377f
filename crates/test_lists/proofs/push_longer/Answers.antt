use Rattle.std.proofs.Common.{rules, ◌≡◌, ◌+◌, ◌∷◌, ◌++◌, [], ℕ, List, All, Option, IfSome, sym, subst}
use Rattle.craft_state.specs.Craft.{StateFields}
use Rattle.test_lists.specs.declared.Listed.{Listed}
use Rattle.test_lists.specs.Lists.{IsListed}
use Rattle.test_lists.proofs.Longer.{All-snoc}
use Rattle.test_lists.proofs.push_longer.Goals.{in-Some+in_ok-push, in_default}
use Rattle.test_lists.proofs.push_longer.Goals as goal

pub loop-action-preserved : goal.loop-action-preserved
loop-action-preserved c from n listed before =
    let g = c.args.g.now in
    let so_far = c.loop-action.invariant from n listed before in
    elim c.match-branch-2.branch [
      | in-Some+in_ok-push w ↦
          let pushed : c.match-branch-2.longer.items ≡ c.loop-action.longer.items ++ w.in-Some.next ∷ [] = search rules in
          let next : IfSome c.in_ok-next.field-0 (λ l. (from : StateFields) (n : ℕ) → IsListed g from n c.args.listed.now → IsListed g from (n + 1) l) = search rules in
          let one : (from : StateFields) (n : ℕ) → IsListed g from n c.args.listed.now → IsListed g from (n + 1) w.in-Some.next =
          subst (λ (o : Option Listed). IfSome o (λ l. (from : StateFields) (n : ℕ) → IsListed g from n c.args.listed.now → IsListed g from (n + 1) l)) w.in-Some.is next
          in
          subst (λ (ls : List Listed). All (IsListed g from (n + 1)) ls) (sym pushed)
          (All-snoc (IsListed g from (n + 1)) c.loop-action.longer.items w.in-Some.next so_far (one from n listed))
      | in_default w ↦ rw w.longer-is so_far
    ]
