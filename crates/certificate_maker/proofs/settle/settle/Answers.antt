use Rattle.std.proofs.Common.{◌∙◌, sym, ap}
use Rattle.relaxed_moves.specs.Optimum.{limit_of}
use Rattle.front_check.specs.Judging.{Bounds, claim_of}
use Rattle.certificate_maker.proofs.Settling.{settled-complete, settled-failed}
use Rattle.certificate_maker.proofs.settle.settle.Goals as goal

pub returns-then-is_complete-clause-verdict : goal.returns-then-is_complete-clause-verdict
returns-then-is_complete-clause-verdict g c =
    sym (settled-complete (claim_of c.args.stage.now.claimed.now) c.args.stage.now.left c.args.s.now (sym c.is_complete.ensures ∙ c.if-is_complete.true))

pub returns-then-is_final-clause-verdict : goal.returns-then-is_final-clause-verdict
returns-then-is_final-clause-verdict g c =
    sym (settled-failed (claim_of c.args.stage.now.claimed.now) c.args.stage.now.left c.args.s.now (sym c.is_complete.ensures ∙ c.if-is_complete.false) (sym c.is_final.ensures ∙ c.if-is_final.true))

pub settle_live-requires-clause-asked : goal.settle_live-requires-clause-asked
settle_live-requires-clause-asked g c = record {
  undone = sym c.is_complete.ensures ∙ c.if-is_complete.false;
  live = sym c.is_final.ensures ∙ c.if-is_final.false;
  is = c.limit-limit.ensures.value ∙ ap (λ (b : Bounds). limit_of b.g b.grain c.args.s.now) c.requires.bounds;
}
