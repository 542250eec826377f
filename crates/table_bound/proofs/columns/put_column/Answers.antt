use Rattle.seat_tables.proofs.Stills.{still-trans}
use Rattle.table_bound.proofs.Filling.{sees-more}
use Rattle.table_bound.proofs.columns.put_column.Goals as goal

pub loop-bucket-preserved : goal.loop-bucket-preserved
loop-bucket-preserved g c = record {
  of = c.tell.ensures.of;
  still = still-trans _ _ _ c.loop-bucket.invariant.still c.tell.ensures.still;
  seen = sees-more c.loop-bucket.bucket (g.T.Bound.rules c.args.shared.now.truth) c.args.column.now.budget c.args.column.now.x _ _ c.tell.ensures.still c.tell.ensures.seen c.loop-bucket.invariant.seen;
}
