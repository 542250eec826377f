-- Each legal step lowers the measure by at least 4.
use Rattle.std.proofs.Common.{◌≡◌, ◌≤◌, ◌+◌, ◌%◌, ℕ, true, false, arith, refl, if◌then◌else◌}
use Rattle.action_table.specs.declared.action.Action.{Action}
use Rattle.action_table.specs.declared.action.Action.TheVariants.{BasicSynthesis, MastersMend, ImmaculateMend, Manipulation, TrainedPerfection}
use Rattle.step_rules.specs.Legality.{is_over, is_legal, start_of, IsWithin}
use Rattle.step_rules.proofs.LegalFacts.{legal_facts}
use Rattle.step_rules.specs.Legality.{IsAllowedNow}
use Rattle.craft_state.specs.Craft.{EffectFields, StateFields}
use Rattle.craft_settings.specs.Ranges.{SettingsFields, AreSettings}
use Rattle.combo_effects.specs.Combos.{cp_cost_of, tick_of, after_of}
use Rattle.step_rules.specs.Measure.{measure}
use Rattle.step_rules.specs.Step.{acted_of, settled_of, step_of}

-- what follows where the craft goes on may add so much to the measure
abbrev pub allowance : Action → ℕ
allowance MastersMend = 24
allowance ImmaculateMend = 80
allowance Manipulation = 32
allowance TrainedPerfection = 4
allowance _ = 0

pub measure-settled : (g : SettingsFields) (before : EffectFields) (action : Action) (s : StateFields) →
    g.durability ≤ 100 → s.durability ≤ g.durability → before.manipulation ≡ s.effects.manipulation →
    measure (settled_of g before action s) ≤ measure s + allowance action
unfolding settled_of tick_of after_of
measure-settled g before MastersMend s full within same = grind arith
measure-settled g before _ s full within same = grind arith

-- what the action does at once takes at least so much from the measure
abbrev pub fall : Action → ℕ
fall BasicSynthesis = 4
fall TrainedPerfection = 0
fall action = 4 + allowance action

pub measure-acted : (g : SettingsFields) (s : StateFields) (action : Action) →
    s.durability % 5 ≡ 0 → cp_cost_of action g.level s.effects.combo ≤ s.cp → is_over g s ≡ false →
    measure (acted_of g s action) + fall action ≤ measure s
unfolding acted_of
measure-acted g s BasicSynthesis fives paid live = grind arith
measure-acted g s _ fives paid live = grind arith

-- the durability after what the action does at once is within the settings
pub durability-acted : (g : SettingsFields) (s : StateFields) (action : Action) → s.durability ≤ g.durability → (acted_of g s action).durability ≤ g.durability
unfolding acted_of
durability-acted g s action within = omega arith

manipulation-acted : (g : SettingsFields) (s : StateFields) (action : Action) → s.effects.manipulation ≡ (acted_of g s action).effects.manipulation
unfolding acted_of
manipulation-acted g s action = refl

measure-ordinary : (g : SettingsFields) (s : StateFields) (action : Action) → fall action ≡ 4 + allowance action →
    IsWithin g s → IsAllowedNow g s action → measure (step_of g s action) + 4 ≤ measure s
unfolding step_of
measure-ordinary g s action ordinary within facts =
    let acted = measure-acted g s action within.state.fives facts.paid facts.live in
    let settled = measure-settled g s.effects action (acted_of g s action) within.settings.durability.high (durability-acted g s action within.durability) (manipulation-acted g s action) in
    elim (is_over g (acted_of g s action)) as (λ b. measure (if b then acted_of g s action else settled_of g s.effects action (acted_of g s action)) + 4 ≤ measure s) [
      | true ↦ omega (arith, acted, ordinary)
      | false ↦ omega (arith, acted, settled, ordinary)
    ]

measure-perfected : (g : SettingsFields) (s : StateFields) →
    IsWithin g s → IsAllowedNow g s TrainedPerfection → measure (step_of g s TrainedPerfection) + 4 ≤ measure s
unfolding step_of acted_of settled_of tick_of after_of
measure-perfected g s within facts = grind arith

pub measure_falls : (g : SettingsFields) (s : StateFields) (action : Action) →
    IsWithin g s → is_legal g s action ≡ true → measure (step_of g s action) + 4 ≤ measure s
measure_falls g s TrainedPerfection within legal = measure-perfected g s within (legal_facts g s TrainedPerfection legal)
measure_falls g s action within legal = measure-ordinary g s action refl within (legal_facts g s action legal)

pub measure-start : (g : SettingsFields) → AreSettings g → measure (start_of g) ≤ 1088
measure-start g settings = grind arith
