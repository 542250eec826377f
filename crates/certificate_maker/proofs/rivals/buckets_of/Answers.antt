use Rattle.std.proofs.Common.{◌≡◌, ◌∙◌, ap, refl, arith, ◌<◌, length}
use Rattle.certificate_maker.specs.Rivals.{bucket_of}
use Rattle.pareto_front.specs.Lists.{items_of}
use Rattle.pareto_front.proofs.Vectors.{length-items}
use Rattle.certificate_maker.proofs.Bucketed.{fill-start, fill-step, filled}
use Rattle.certificate_maker.proofs.rivals.buckets_of.Goals as goal

pub loop-place-init : goal.loop-place-init
loop-place-init c =
    let buckets = c.in_ok-buckets.buckets.items in
    record {
      some = omega (arith, c.in_ok-buckets.ensures.many);
      fill = fill-start c.args.next.now (length buckets) (items_of buckets) (length-items buckets) c.in_ok-buckets.ensures.empty;
    }

pub loop-place-preserved : goal.loop-place-preserved
loop-place-preserved c =
    let buckets = c.loop-place.buckets.items in
    let inside : c.loop-place.place < length c.args.next.now = omega arith in
    let count : c.len.result ≡ length buckets = omega (arith, c.len.ensures) in
    let more = fill-step c.args.next.now c.loop-place.place c.bucket_of-bucket.result c.index-next-place.result _ buckets c.push_to.new.buckets.items inside c.index-next-place.is
    (c.bucket_of-bucket.ensures.value ∙ ap (bucket_of c.index-next-place.result.state) count) (omega (arith, c.bucket_of-bucket.ensures.inside, count)) refl c.in_ok-push_to.ensures c.loop-place.invariant.fill in
    record {
      some = omega (arith, more.0, c.loop-place.invariant.some);
      fill = more.1;
    }

pub returns : goal.returns
returns c =
    filled c.args.next.now (length c.loop-place.buckets.items) c.loop-place.place (items_of c.loop-place.buckets.items) (omega arith) c.loop-place.invariant.some c.loop-place.invariant.fill
