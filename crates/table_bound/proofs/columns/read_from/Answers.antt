use Rattle.std.proofs.Common.{rules, ◌<◌, ◌+◌, length}
use Rattle.seat_tables.proofs.Stills.{still-trans}
use Rattle.relaxed_moves.specs.Columns.{at_bucket}
use Rattle.relaxed_moves.proofs.Indices.{relaxed_at}
use Rattle.table_bound.specs.Bounds.{optimum}
use Rattle.table_bound.proofs.Filling.{number_small, reads-more}
use Rattle.table_bound.proofs.columns.read_from.Goals as goal

pub number_of_entry-requires : goal.number_of_entry-requires
number_of_entry-requires g c = λ o is.
    let truth = c.args.shared.now.truth in
    let laws = g.met.T.Bound g.world.𝓛 g.world.𝓜 g.world.𝓡 ((λ s x. x), (λ x. x), (λ x. x), λ x. x) in
    let x = at_bucket c.args.column.now.x c.loop-bucket.bucket in
    number_small (g.T.Bound.rules truth) c.args.column.now.budget x c.in-Some.entry (laws.rules_hold truth) (relaxed_at c.args.column.now.x _ c.requires.column.bounds) c.requires.column.of_table c.in-Some.ensures.value o is

pub loop-bucket-preserved : goal.loop-bucket-preserved
loop-bucket-preserved g c =
    let r = g.T.Bound.rules c.args.shared.now.truth in
    let n = c.loop-bucket.bucket in
    let inside : n + c.args.down < length c.loop-bucket.row = search rules in
    record {
      of = c.look_at.ensures.of;
      still = still-trans _ _ _ c.loop-bucket.invariant.still c.look_at.ensures.still;
      row = reads-more r c.args.column.now.budget c.args.column.now.x c.args.down n c.number_of_entry.result c.loop-bucket.row inside c.loop-bucket.invariant.row
          (c.number_of_entry.ensures (optimum r c.args.column.now.budget (at_bucket c.args.column.now.x n)) c.in-Some.ensures.value);
    }
