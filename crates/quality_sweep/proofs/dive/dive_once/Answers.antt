use Rattle.std.proofs.Common.{List, subst}
use Rattle.std.specs.List.{Contains}
use Rattle.quality_sweep.specs.declared.candidate.Candidate.{Candidate}
use Rattle.quality_sweep.proofs.Exploring.{becomes-reached, waits-among}
use Rattle.quality_sweep.proofs.dive.dive_once.Goals as goal

pub loop-step-preserved : goal.loop-step-preserved
loop-step-preserved g c = record {
  level =
      waits-among c.args.outlook.now.g.now (g.C.Ceiling.allows c.args.outlook.now.ceiling.now) c.args.outlook.now.from.now c.explore.new.found.items c.choose_highest.new.level.items
      (λ x there. subst (λ (l : List Candidate). Contains l x) c.deref_mut.ensures.value (c.in_ok-choose_highest.ensures x there)) c.in_ok-best.ensures.waits;
  reached = becomes-reached c.args.outlook.now.g.now c.args.outlook.now.from.now c.loop-step.best c.in_ok-best.best c.loop-step.invariant.reached c.in_ok-best.ensures.becomes;
}
