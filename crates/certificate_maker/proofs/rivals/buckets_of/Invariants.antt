use Rattle.std.proofs.Common.{◌<◌, length}
use Rattle.pareto_front.specs.Lists.{items_of}
use Rattle.certificate_maker.proofs.Bucketed.{Fill}
use Rattle.certificate_maker.proofs.rivals.buckets_of.Given as goal

abbrev pub invariant-loop-place : goal.invariant-loop-place
invariant-loop-place l = record {
  some : 0 < length l.buckets.items;
  fill : Fill l.next (length l.buckets.items) l.place (items_of l.buckets.items);
}
