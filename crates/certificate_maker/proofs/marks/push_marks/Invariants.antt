use Rattle.std.proofs.Common.{◌≡◌, ◌++◌, take}
use Rattle.std.specs.List.{filter_map}
use Rattle.action_table.specs.Table.{all_actions}
use Rattle.front_check.specs.Judging.{claim_of}
use Rattle.certificate_maker.specs.Marks.{child_mark}
use Rattle.certificate_maker.proofs.marks.push_marks.Given as goal

abbrev pub invariant-loop-action : goal.invariant-loop-action
invariant-loop-action g l = record {
  marks : l.marks.items ≡ l.initial.marks.items ++ filter_map (child_mark (claim_of l.stage.claimed.now) l.stage.left l.place l.node) (take l.action-index all_actions);
  bounds : g.L.Limits.bounds l.limits ≡ g.L.Limits.bounds l.initial.limits;
}
