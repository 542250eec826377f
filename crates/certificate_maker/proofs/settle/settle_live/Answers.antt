use Rattle.std.proofs.Common.{◌∙◌, sym, ap, false}
use Rattle.front_check.specs.Judging.{claim_of}
use Rattle.certificate_laws.proofs.Made.{picked}
use Rattle.certificate_maker.proofs.Settling.{settled-limited, settled-wins, settled-short}
use Rattle.certificate_maker.proofs.settle.settle_live.Goals as goal

pub returns-then-is_below-clause-verdict : goal.returns-then-is_below-clause-verdict
returns-then-is_below-clause-verdict g c =
    sym (settled-limited (claim_of c.args.stage.now.claimed.now) c.args.stage.now.left c.args.s.now c.args.limit c.is_below.result c.requires.asked c.is_below.ensures c.if-is_below.true)

pub returns-then-not-is_at_most-clause-verdict : goal.returns-then-not-is_at_most-clause-verdict
returns-then-not-is_at_most-clause-verdict g c =
    sym (settled-wins (claim_of c.args.stage.now.claimed.now) c.args.stage.now.left c.args.s.now c.args.limit c.is_below.result c.is_at_most.result c.requires.asked c.is_below.ensures c.is_at_most.ensures
    c.if-is_below.false c.if-not-is_at_most.true)

pub returns-then-is_short-clause-verdict : goal.returns-then-is_short-clause-verdict
returns-then-is_short-clause-verdict g c =
    sym (settled-short (claim_of c.args.stage.now.claimed.now) c.args.stage.now.left c.args.s.now c.args.limit c.is_below.result c.is_at_most.result c.is_short.result c.requires.asked c.is_below.ensures c.is_at_most.ensures
    c.is_short.ensures.value c.if-is_below.false c.if-not-is_at_most.false ∙ ap (λ b. picked false false false b) c.if-is_short.true)

pub returns-clause-verdict : goal.returns-clause-verdict
returns-clause-verdict g c =
    sym (settled-short (claim_of c.args.stage.now.claimed.now) c.args.stage.now.left c.args.s.now c.args.limit c.is_below.result c.is_at_most.result c.is_short.result c.requires.asked c.is_below.ensures c.is_at_most.ensures
    c.is_short.ensures.value c.if-is_below.false c.if-not-is_at_most.false ∙ ap (λ b. picked false false false b) c.if-is_short.false)
