use Rattle.std.proofs.Common.{◌≡◌, ◌+◌, ◌-◌, ◌<◌, ◌≤◌, ◌^◌, length, get_or, ap, ◌∙◌, sym, arith, w32, Fits}
use lib.Lanes.{chunk, put_chunk}
use Rattle.std.proofs.lemmas.Simd.{get_or-put_chunk_below, get_or-put_chunk_above, get_or-put_chunk_at, Each2-splat, Each1-from_get_or, get_or-chunk, length-chunk}
use Rattle.lane_front.proofs.Lanes.{lanes_max, max_at, length-lanes_max}
use Rattle.lane_front.proofs.max_plus_lanes.Goals as goal

pub overflow_add-sum : goal.overflow_add-sum
overflow_add-sum c =
    let i = c.args.i in
    let src = c.args.src.now in
    let long : length (chunk i 8 src) ≡ 8 = length-chunk i 8 src c.requires.room in
    Each2-splat (λ x y. Fits w32 (x + y)) (chunk i 8 src) 8 c.args.add
    (Each1-from_get_or (λ x. Fits w32 (x + c.args.add)) (chunk i 8 src) 0 (λ j lt.
    let small : j < 8 = omega arith in
    let at = get_or-chunk i 8 src j 0 small in
    let fits : get_or src (i + j) 0 + c.args.add < 2 ^ 32 = c.requires.fits (i + j) (omega arith) in
    record { fits = omega arith }))

pub returns-clause-at : goal.returns-clause-at
returns-clause-at c k le lt =
    let i = c.args.i in
    let src = c.args.src.now in
    let dst = c.args.dst.now in
    let ys = lanes_max c.args.add (chunk i 8 src) (chunk i 8 dst) in
    let here : i + (k - i) ≡ k = omega arith in
    let room : i + 8 ≤ length dst = omega arith in
    let long : length ys ≡ 8 = length-lanes_max dst src c.args.add i c.requires.room room in
    ap (λ m. get_or (put_chunk i dst ys) m 0) (sym here) ∙ get_or-put_chunk_at i dst ys (k - i) 0 (omega arith) (omega arith)
    ∙ max_at dst src c.args.add i k c.requires.room (omega arith) le lt

pub returns-clause-below : goal.returns-clause-below
returns-clause-below c k lt = get_or-put_chunk_below c.args.i c.args.dst.now _ k 0 lt

pub returns-clause-above : goal.returns-clause-above
returns-clause-above c k le =
    let room : c.args.i + 8 ≤ length c.args.dst.now = omega arith in
    let ys = lanes_max c.args.add (chunk c.args.i 8 c.args.src.now) (chunk c.args.i 8 c.args.dst.now) in
    let long : length ys ≡ 8 = length-lanes_max c.args.dst.now c.args.src.now c.args.add c.args.i c.requires.room room in
    get_or-put_chunk_above c.args.i c.args.dst.now ys k 0 (omega arith)
