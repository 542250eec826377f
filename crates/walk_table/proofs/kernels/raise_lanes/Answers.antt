use Rattle.std.proofs.Common.{◌≡◌, ◌+◌, ◌-◌, ◌<◌, get_or, ap, ◌∙◌, sym, arith, min, max, cond, eqb, replicate}
use lib.Lanes.{chunk, put_chunk}
use Rattle.std.proofs.lemmas.Simd.{get_or-put_chunk_below, get_or-put_chunk_above, get_or-put_chunk_at, get_or-chunk, get_or-replicate}
use Rattle.walk_table.specs.Words.{raised, greatest_word, lanes}
use Rattle.walk_table.proofs.kernels.raise_lanes.Goals as goal

pub returns-clause-at : goal.returns-clause-at
returns-clause-at c k le lt =
    let i = c.args.i in
    let dst = c.args.dst.now in
    let src = c.args.src.now in
    let gain = c.args.gain in
    let ys = c.larger-all.result in
    let here : i + (k - i) ≡ k = omega arith in
    let small : k - i < lanes = omega arith in
    let old : get_or (chunk i lanes dst) (k - i) 0 ≡ get_or dst k 0 = get_or-chunk i lanes dst (k - i) 0 small ∙ ap (λ m. get_or dst m 0) here in
    let from : get_or (chunk i lanes src) (k - i) 0 ≡ get_or src k 0 = get_or-chunk i lanes src (k - i) 0 small ∙ ap (λ m. get_or src m 0) here in
    let sum : get_or c.cut_sum-sum.result (k - i) 0 ≡ min greatest_word (get_or src k 0 + gain) =
    c.cut_sum-sum.ensures.lanes (k - i) small ∙ ap (λ m. min greatest_word (m + get_or (replicate lanes gain) (k - i) 0)) from
    ∙ ap (λ m. min greatest_word (get_or src k 0 + m)) (get_or-replicate lanes (k - i) gain 0 small) in
    let some : get_or c.where_some.result (k - i) 0 ≡ raised gain (get_or src k 0) =
    c.where_some.ensures.lanes (k - i) small ∙ ap (λ m. cond (eqb m 0) 0 (get_or c.cut_sum-sum.result (k - i) 0)) from
    ∙ ap (λ m. cond (eqb (get_or src k 0) 0) 0 m) sum in
    ap (λ m. get_or (put_chunk i dst ys) m 0) (sym here)
    ∙ get_or-put_chunk_at i dst ys (k - i) 0 (omega (arith, c.larger-all.ensures.len)) (omega (arith, c.larger-all.ensures.len))
    ∙ c.larger-all.ensures.lanes (k - i) small ∙ ap (λ m. max m (get_or c.where_some.result (k - i) 0)) old ∙ ap (λ m. max (get_or dst k 0) m) some

pub returns-clause-below : goal.returns-clause-below
returns-clause-below c k lt = get_or-put_chunk_below c.args.i c.args.dst.now _ k 0 lt

pub returns-clause-above : goal.returns-clause-above
returns-clause-above c k le = get_or-put_chunk_above c.args.i c.args.dst.now c.larger-all.result k 0 (omega (arith, c.larger-all.ensures.len))
