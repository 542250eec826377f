use Rattle.std.proofs.Common.{◌≡◌, ◌+◌, ◌-◌, ◌<◌, get_or, ap, ◌∙◌, sym, arith, max, replicate}
use lib.Lanes.{chunk, put_chunk}
use Rattle.std.proofs.lemmas.Simd.{get_or-put_chunk_below, get_or-put_chunk_above, get_or-put_chunk_at, get_or-chunk, get_or-replicate}
use Rattle.walk_table.specs.Words.{lanes}
use Rattle.walk_table.proofs.kernels.flat_lanes.Goals as goal

pub returns-clause-at : goal.returns-clause-at
returns-clause-at c k le lt =
    let i = c.args.i in
    let dst = c.args.dst.now in
    let ys = c.larger-all.result in
    let here : i + (k - i) ≡ k = omega arith in
    let small : k - i < lanes = omega arith in
    let old : get_or (chunk i lanes dst) (k - i) 0 ≡ get_or dst k 0 = get_or-chunk i lanes dst (k - i) 0 small ∙ ap (λ m. get_or dst m 0) here in
    ap (λ m. get_or (put_chunk i dst ys) m 0) (sym here) ∙ get_or-put_chunk_at i dst ys (k - i) 0 (omega (arith, c.larger-all.ensures.len)) (omega (arith, c.larger-all.ensures.len)) ∙ c.larger-all.ensures.lanes (k - i) small
    ∙ ap (λ m. max m (get_or (replicate lanes c.args.word) (k - i) 0)) old ∙ ap (λ m. max (get_or dst k 0) m) (get_or-replicate lanes (k - i) c.args.word 0 small)

pub returns-clause-below : goal.returns-clause-below
returns-clause-below c k lt = get_or-put_chunk_below c.args.i c.args.dst.now _ k 0 lt

pub returns-clause-above : goal.returns-clause-above
returns-clause-above c k le = get_or-put_chunk_above c.args.i c.args.dst.now c.larger-all.result k 0 (omega (arith, c.larger-all.ensures.len))
