use Rattle.std.proofs.Common.{◌≡◌, false, min}
use Rattle.craft_settings.specs.Rules.{cap_of}
use Rattle.quality_sweep.specs.Ahead.{is_above}
use Rattle.quality_sweep.proofs.Choosing.{chooses_cut, chooses_old, chooses_new}
use Rattle.quality_sweep.proofs.above.choose_one.Goals as goal

pub returns-then-not-is_above : goal.returns-then-not-is_above
returns-then-not-is_above c =
    let cut : is_above (min (cap_of c.args.g.now) c.args.candidate.now.limit) c.args.best ≡ false = cc in
    chooses_cut c.args.g.now c.args.candidate.now c.args.best c.args.kept.now c.args.chosen.now.items cut

pub returns-else-is_new : goal.returns-else-is_new
returns-else-is_new c =
    chooses_old c.args.g.now c.args.candidate.now c.args.best c.args.kept.now c.offer.new.self c.args.chosen.now.items c.in_ok-is_new.is_new c.in_ok-is_new.ensures.answer c.in_ok-is_new.ensures.kept c.if-is_new.false

pub returns-in_ok-push : goal.returns-in_ok-push
returns-in_ok-push c =
    chooses_new c.args.g.now c.args.candidate.now c.args.best c.args.kept.now c.offer.new.self c.args.chosen.now.items c.push.new.self.items c.in_ok-is_new.is_new c.in_ok-is_new.ensures.kept c.if-is_new.true c.in_ok-push.ensures.items
