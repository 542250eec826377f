-- The states after the actions so far.
use Rattle.std.proofs.Common.{◌≡◌, ◌+◌, Some, length, take}
use Rattle.step_rules.specs.Legality.{IsWithin}
use Rattle.step_rules.specs.Run.{run_of}
use Rattle.replay_report.proofs.Along.{AreStatesTo}
use Rattle.replay_report.proofs.states.states_from.Given as goal

abbrev pub invariant-loop-action : goal.invariant-loop-action
invariant-loop-action l = record {
  within : IsWithin l.g l.state;
  ran : run_of l.g l.from (take l.action-index l.actions) ≡ Some l.state;
  as_many : length l.states.items ≡ l.action-index + 1;
  each : AreStatesTo l.g l.from l.actions l.action-index l.states.items;
}
