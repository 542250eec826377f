-- A craft that goes on after some actions isn't unfit.
use Rattle.std.proofs.Common.{◌≡◌, ◌∙◌, true, false, List, None, refl, subst, sym, true≢false}
use Rattle.action_table.specs.declared.action.Action.{Action}
use Rattle.craft_settings.specs.Ranges.{SettingsFields}
use Rattle.craft_state.specs.Craft.{StateFields}
use Rattle.step_rules.specs.Legality.{is_legal, is_over, start_of}
use Rattle.step_rules.specs.Run.{run_of}
use Rattle.step_rules.proofs.Runs.{run_of-stopped}
use Rattle.resume_start.specs.Done.{IsUnderway, IsUnfit}
use Rattle.resume_start.specs.declared.underway.Unfit.{Unfit}
use Rattle.resume_start.specs.declared.underway.Unfit.TheVariants.{Illegal, Over}

pub not-both : (g : SettingsFields) (done : List Action) (unfit : Unfit) → IsUnfit g done unfit → IsUnderway g done → ⊥
not-both g done (Illegal place why) (state, stops) (from, after) =
    let illegal : is_legal g state stops.action ≡ false = rw stops.reason refl in
    let none : run_of g (start_of g) done ≡ None = run_of-stopped g (start_of g) state done place stops.action stops.before stops.at illegal in
    let some = after.ran in
    cc
not-both g done Over over (from, after) =
    let one = over.ran in
    let other = after.ran in
    let same : over.last ≡ from = cc in
    true≢false (sym (subst (λ (s : StateFields). is_over g s ≡ true) same over.over) ∙ after.is_open.live)
