use Rattle.std.proofs.Common.{All}
use Rattle.step_rules.specs.Legality.{IsWithin}
use Rattle.test_lists.specs.Lists.{IsListed}
use Rattle.test_lists.proofs.all_lists.Given as goal

abbrev pub invariant-loop-turn : goal.invariant-loop-turn
invariant-loop-turn l = record {
  listed : All (IsListed l.g l.from l._turn) l.lists.items;
  within : All (λ x. IsWithin l.g x.state) l.lists.items;
}
