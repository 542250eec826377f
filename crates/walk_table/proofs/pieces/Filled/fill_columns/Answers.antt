use Rattle.std.proofs.Common.{ℕ, ◌≡◌, ◌<◌, ◌*◌, ◌/◌, ◌%◌, ◌∙◌, length, arith, subst, ap, sym, refl}
use Rattle.walk_table.specs.Pieces.{FilledFields}
use Rattle.walk_table.proofs.Columns.{column_within, columns_more, columns_whole}
use Rattle.walk_table.proofs.pieces.Filled.fill_columns.Goals as goal

pub loop-j-preserved : goal.loop-j-preserved
loop-j-preserved c =
    let needs = c.args.self.now.needs in
    let i = c.self.inside in
    let j = c.loop-j.j in
    let same : i.needs ≡ needs = subst (λ (t : FilledFields). i.needs ≡ t.needs) c.self.view_is refl in
    let test : j < length c.args.run.now / needs = subst (λ (n : ℕ). j < length c.args.run.now / n) same c.loop-j-test.true in
    let inside = column_within j (length c.args.run.now) needs test in
    let at_is : j * i.needs ≡ j * needs = ap (λ (n : ℕ). j * n) same in
    columns_more c.args.self.now.graph c.args.budget c.args.first needs j (j * i.needs) _ c.loop-j.run c.fill_column.new.out at_is
    (omega (arith, c.loop-j.auto.run)) (omega (arith, c.fill_column.auto.out)) c.fill_column.ensures c.loop-j.invariant

pub returns : goal.returns
returns c =
    let needs = c.args.self.now.needs in
    let same : c.self.inside.needs ≡ needs = subst (λ (t : FilledFields). c.self.inside.needs ≡ t.needs) c.self.view_is refl in
    let long : length c.loop-j.run ≡ length c.args.run.now = c.loop-j.auto.run in
    let all : length c.loop-j.run / needs ≡ length c.args.run.now / c.self.inside.needs = ap (λ (n : ℕ). n / needs) long ∙ ap (λ (n : ℕ). length c.args.run.now / n) (sym same) in
    columns_whole c.args.self.now.graph c.args.budget c.args.first needs c.loop-j.j c.loop-j.run (ap (λ (n : ℕ). n % needs) long ∙ c.requires.whole) (omega (arith, c.loop-j-test.false)) c.loop-j.invariant
