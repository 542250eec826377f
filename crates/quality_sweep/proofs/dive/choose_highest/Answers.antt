use Rattle.std.proofs.Common.{sym, ◌<◌, List, length, subst, arith, inl, inr}
use Rattle.std.specs.List.{Contains}
use Rattle.std.proofs.lemmas.List.Elements.{Contains-get_or, Contains-push_cases}
use Rattle.quality_sweep.specs.declared.candidate.Candidate.{Candidate}
use Rattle.quality_sweep.proofs.Exploring.{contains_back}
use Rattle.quality_sweep.proofs.dive.choose_highest.Goals as goal
use Rattle.quality_sweep.proofs.dive.choose_highest.Goals.{then-branch+in_ok-push, else-branch}

pub returns-then-len-width : goal.returns-then-len-width
returns-then-len-width c = λ x h. contains_back _ _ c.sort_unstable_by_key.ensures.permutation x (c.loop-candidate.invariant x h)

pub loop-candidate-preserved : goal.loop-candidate-preserved
loop-candidate-preserved c = λ x h. elim c.if-branch.branch [
  | then-branch+in_ok-push w ↦
      let inside : c.loop-candidate.candidate-index < length c.sort_unstable_by_key.new.self = omega arith in
      let here : Contains c.sort_unstable_by_key.new.self c.candidate-item.result =
      subst (λ (y : Candidate). Contains c.sort_unstable_by_key.new.self y) (sym c.candidate-item.is) (Contains-get_or c.sort_unstable_by_key.new.self c.loop-candidate.candidate-index c.candidate-item.result inside)
      in
      elim (Contains-push_cases c.loop-candidate.level.items c.candidate-item.result x (subst (λ (l : List Candidate). Contains l x) w.in_ok-push.ensures.items (rw w.level-is at h))) [
        | inl old ↦ c.loop-candidate.invariant x old
        | inr e ↦ subst (λ (y : Candidate). Contains c.sort_unstable_by_key.new.self y) e here
      ]
  | else-branch w ↦ c.loop-candidate.invariant x (rw w.level-is at h)
]

pub returns : goal.returns
returns c = λ x h. contains_back _ _ c.sort_unstable_by_key.ensures.permutation x (c.loop-candidate.invariant x h)
