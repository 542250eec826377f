use Rattle.std.proofs.Common.{◌≤◌}
use Rattle.step_rules.specs.Legality.{IsWithin}
use Rattle.priced_bound.proofs.tests.drawn_state.Given as goal

abbrev pub invariant-loop-tried : goal.invariant-loop-tried
invariant-loop-tried l = record {
  within : IsWithin l.g l.state;
  few : l.done ≤ l.tried;
}
