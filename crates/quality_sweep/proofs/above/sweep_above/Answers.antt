use Rattle.std.proofs.Common.{◌≡◌, ◌∙◌, sym, ℕ, ◌≤◌, ◌<◌, List, Option, None, Some, false, true, length, ap, subst, refl, inl, arith}
use Rattle.craft_state.specs.Craft.{StateFields}
use Rattle.quality_sweep.specs.Ahead.{NoBetter, is_above}
use Rattle.quality_sweep.specs.Places.{place_of, places_of}
use Rattle.quality_sweep.specs.Shelves.{ShelvesFields}
use Rattle.quality_sweep.specs.Sweeping.{Becomes, Holds}
use Rattle.quality_sweep.proofs.Exploring.{becomes-trans}
use Rattle.quality_sweep.proofs.Placing.{place-inside}
use Rattle.quality_sweep.proofs.Turning.{begins, ends, entered, found-above, none-above, none-at_all}
use Rattle.quality_sweep.proofs.above.sweep_above.Goals as goal

pub put-requires : goal.put-requires
put-requires g c =
    let low : 1 ≤ c.in_ok-shelves.shelves.width = subst (λ (w : ℕ). 1 ≤ w) (sym c.in_ok-shelves.ensures.width) c.width_of.ensures in
    let count : length c.in_ok-shelves.shelves.lists ≡ places_of c.in_ok-shelves.shelves.width c.args.outlook.now.g.now =
    c.in_ok-shelves.ensures.count ∙ ap (λ (w : ℕ). places_of w c.args.outlook.now.g.now) (sym c.in_ok-shelves.ensures.width)
    in
    subst (λ (n : ℕ). place_of c.in_ok-shelves.shelves.width c.first.result.state < n) (sym count)
    (place-inside c.args.outlook.now.g.now c.in_ok-shelves.shelves.width c.first.result.state low c.first.ensures.waits.open_state.within)

pub loop-place-init : goal.loop-place-init
loop-place-init g c =
    let low : 1 ≤ c.in_ok-shelves.shelves.width = subst (λ (w : ℕ). 1 ≤ w) (sym c.in_ok-shelves.ensures.width) c.width_of.ensures in
    let count : length c.in_ok-shelves.shelves.lists ≡ places_of c.in_ok-shelves.shelves.width c.args.outlook.now.g.now =
    c.in_ok-shelves.ensures.count ∙ ap (λ (w : ℕ). places_of w c.args.outlook.now.g.now) (sym c.in_ok-shelves.ensures.width)
    in
    record {
      holds =
          subst (λ (k : List StateFields). Holds c.args.outlook.now.g.now (g.C.Ceiling.allows c.args.outlook.now.ceiling.now) c.args.outlook.now.from.now 0 k c.put.new.self c.args.floor) (sym c.new-2.ensures)
          (begins c.args.outlook.now.g.now (g.C.Ceiling.allows c.args.outlook.now.ceiling.now) c.args.outlook.now.from.now c.first.result c.in_ok-shelves.shelves c.put.new.self c.args.floor
          c.first.ensures.waits c.first.ensures.state low count c.in_ok-shelves.ensures.empty c.in_ok-put.ensures);
      becomes = inl refl;
      count = sym c.len-count.ensures;
    }

pub clear-requires-clause-holds : goal.clear-requires-clause-holds
clear-requires-clause-holds g c κs within =
    subst (λ (s : ShelvesFields). Holds c.args.outlook.now.g.now (g.C.Ceiling.allows c.args.outlook.now.ceiling.now) c.args.outlook.now.from.now c.loop-place.place c.enter.new.front.kept s c.enter.new.front.best) (sym c.enter.ensures.shelves)
    (subst (λ (b : Option ℕ). Holds c.args.outlook.now.g.now (g.C.Ceiling.allows c.args.outlook.now.ceiling.now) c.args.outlook.now.from.now c.loop-place.place c.enter.new.front.kept c.loop-place.front.shelves b) (sym c.enter.ensures.best)
    (entered c.args.outlook.now.g.now (g.C.Ceiling.allows c.args.outlook.now.ceiling.now) c.args.outlook.now.from.now c.loop-place.place c.loop-place.front.kept c.enter.new.front.kept c.loop-place.front.shelves c.loop-place.front.best
    c.enter.ensures.kept c.loop-place.invariant.holds))

pub loop-place-preserved : goal.loop-place-preserved
loop-place-preserved g c = record {
  holds = c.in_ok-clear.ensures.holds;
  becomes =
      becomes-trans c.args.outlook.now.g.now c.args.outlook.now.from.now c.args.floor c.loop-place.front.best c.clear.new.front.best c.loop-place.invariant.becomes
      (subst (λ (b : Option ℕ). Becomes c.args.outlook.now.g.now c.args.outlook.now.from.now b c.clear.new.front.best) c.enter.ensures.best c.in_ok-clear.ensures.becomes);
  count = c.in_ok-clear.ensures.count ∙ ap (λ (s : ShelvesFields). length s.lists) c.enter.ensures.shelves ∙ c.loop-place.invariant.count;
}

pub returns-in-None : goal.returns-in-None
returns-in-None g c =
    let all : length c.loop-place.front.shelves.lists ≤ c.loop-place.place = omega (arith, c.loop-place.invariant.count) in
    let most : NoBetter c.args.outlook.now.g.now c.args.outlook.now.from.now c.loop-place.front.best =
    ends c.args.outlook.now.g.now (g.C.Ceiling.allows c.args.outlook.now.ceiling.now) c.args.outlook.now.from.now c.loop-place.place c.loop-place.front.kept c.loop-place.front.shelves c.loop-place.front.best all c.loop-place.invariant.holds
    in
    let is : c.loop-place.front.best ≡ None = cc in
    none-at_all c.args.outlook.now.g.now c.args.outlook.now.from.now c.args.floor c.loop-place.front.best most is

pub returns-then-not-is_above : goal.returns-then-not-is_above
returns-then-not-is_above g c =
    let all : length c.loop-place.front.shelves.lists ≤ c.loop-place.place = omega (arith, c.loop-place.invariant.count) in
    let most : NoBetter c.args.outlook.now.g.now c.args.outlook.now.from.now c.loop-place.front.best =
    ends c.args.outlook.now.g.now (g.C.Ceiling.allows c.args.outlook.now.ceiling.now) c.args.outlook.now.from.now c.loop-place.place c.loop-place.front.kept c.loop-place.front.shelves c.loop-place.front.best all c.loop-place.invariant.holds
    in
    let is : c.loop-place.front.best ≡ Some c.in-Some.quality = cc in
    let cut : is_above c.in-Some.quality c.args.floor ≡ false = cc in
    none-above c.args.outlook.now.g.now c.args.outlook.now.from.now c.args.floor c.loop-place.front.best c.in-Some.quality most is cut

pub returns : goal.returns
returns g c =
    let all : length c.loop-place.front.shelves.lists ≤ c.loop-place.place = omega (arith, c.loop-place.invariant.count) in
    let most : NoBetter c.args.outlook.now.g.now c.args.outlook.now.from.now c.loop-place.front.best =
    ends c.args.outlook.now.g.now (g.C.Ceiling.allows c.args.outlook.now.ceiling.now) c.args.outlook.now.from.now c.loop-place.place c.loop-place.front.kept c.loop-place.front.shelves c.loop-place.front.best all c.loop-place.invariant.holds
    in
    let is : c.loop-place.front.best ≡ Some c.in-Some.quality = cc in
    let above : is_above c.in-Some.quality c.args.floor ≡ true = cc in
    found-above c.args.outlook.now.g.now c.args.outlook.now.from.now c.args.floor c.loop-place.front.best c.in-Some.quality most c.loop-place.invariant.becomes is above
