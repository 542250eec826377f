use Rattle.seat_tables.proofs.Stills.{still-trans}
use Rattle.quality_bound.proofs.Seeing.{sees-one_more}
use Rattle.quality_bound.proofs.fills.fill_range.Goals as goal

pub loop-effects-preserved : goal.loop-effects-preserved
loop-effects-preserved c = record {
  of = c.fill_one.ensures.of;
  still = still-trans _ _ _ c.loop-effects.invariant.still c.fill_one.ensures.still;
  seen = sees-one_more c.args.shared.now.truth.grain c.args.beta c.args.from c.loop-effects.effects _ _ c.fill_one.ensures.still c.fill_one.ensures.seen c.loop-effects.invariant.seen;
}
