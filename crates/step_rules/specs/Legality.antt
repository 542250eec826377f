-- When a craft is over, and why an action isn't legal.
use Rattle.std.specs.Prelude.{Bool, true, false, ◌≡◌, ◌≤◌, ◌<◌, ◌⊎◌, not, ◌&&◌, ◌||◌, ◌==◌, nat_lt, min, if◌then◌else◌, List, [], ◌∷◌, Option, Some, None, is_none}
use Rattle.std.specs.List.{list_any}
use Rattle.std.specs.Option.{option_or}
use Rattle.action_table.specs.declared.action.Action.{Action}
use Rattle.action_table.specs.declared.action.Action.TheVariants.{MuscleMemory, Reflect, TrainedEye, ByregotsBlessing, TrainedFinesse, PrudentTouch, PrudentSynthesis, TrainedPerfection}
use Rattle.action_table.specs.Table.{row_of, number_of}
use Rattle.craft_state.specs.declared.Combo.TheVariants.{NoCombo}
use Rattle.craft_state.specs.declared.Perfection.{Perfection}
use Rattle.craft_state.specs.declared.Perfection.TheVariants.{Ready, Spent}
use Rattle.craft_state.specs.Craft.{EffectFields, StateFields, AreEffects, IsState}
use Rattle.craft_settings.specs.Ranges.{SettingsFields, AreSettings}
use Rattle.craft_settings.specs.Rules.{is_learned, is_forbidden, is_allowed}
use Rattle.combo_effects.specs.Combos.{cp_cost_of}
use Rattle.step_rules.specs.declared.legality.Illegal.{Illegal}
use Rattle.step_rules.specs.declared.legality.Illegal.TheVariants.{NotLearned, Forbidden, NotFirst, NoStacks, NotTen, UnderWaste, PerfectionSpent, NotEnoughCp, Finished, Backloaded}

-- the state in which a craft starts
abbrev pub start_of : SettingsFields → StateFields
start_of g = record {
  cp = g.cp;
  durability = g.durability;
  progress = 0;
  quality = min g.initial g.quality;
  effects = record {
    iq = 0;
    waste = 0;
    innovation = 0;
    veneration = 0;
    strides = 0;
    muscle = 0;
    manipulation = 0;
    combo = NoCombo;
    perfection = if is_allowed g TrainedPerfection then Ready else Spent;
    first = true;
  };
}

abbrev pub is_complete : SettingsFields → StateFields → Bool
is_complete g s = s.progress == g.progress

abbrev pub is_over : SettingsFields → StateFields → Bool
is_over g s = is_complete g s || s.durability == 0

abbrev pub is_ready : Perfection → Bool
is_ready Ready = true
is_ready _ = false

-- the settings want all touches before the first progress, and this action comes too late
abbrev pub is_backloaded : SettingsFields → StateFields → Action → Bool
is_backloaded g s action = g.backload && nat_lt 0 (row_of action g.level).quality && nat_lt 0 s.progress

-- the action is one of these
abbrev pub is_among : Action → List Action → Bool
is_among action these = list_any (λ a. number_of a == number_of action) these

-- the ten reasons why an action isn't legal, in their order, each with whether it applies
abbrev pub reasons : SettingsFields → StateFields → Action → List (Bool × Illegal)
reasons g s action =
    (not (is_learned g action), NotLearned)
    ∷ (is_forbidden g action, Forbidden)
    ∷ (is_among action (MuscleMemory ∷ Reflect ∷ TrainedEye ∷ []) && not s.effects.first, NotFirst)
    ∷ (is_among action (ByregotsBlessing ∷ []) && (s.effects.iq == 0), NoStacks)
    ∷ (is_among action (TrainedFinesse ∷ []) && not (s.effects.iq == 10), NotTen)
    ∷ (is_among action (PrudentTouch ∷ PrudentSynthesis ∷ []) && not (s.effects.waste == 0), UnderWaste)
    ∷ (is_among action (TrainedPerfection ∷ []) && not (is_ready s.effects.perfection), PerfectionSpent)
    ∷ (nat_lt s.cp (cp_cost_of action g.level s.effects.combo), NotEnoughCp s.cp (cp_cost_of action g.level s.effects.combo))
    ∷ (is_over g s, Finished)
    ∷ (is_backloaded g s action, Backloaded)
    ∷ []

-- the first of the reasons that applies
abbrev pub first_reason : List (Bool × Illegal) → Option Illegal
first_reason [] = None
first_reason (r ∷ rest) = if r.0 then Some r.1 else first_reason rest

-- the first reason why an action isn't legal
unfoldable pub reason_of : SettingsFields → StateFields → Action → Option Illegal
reason_of g s action = first_reason (reasons g s action)

abbrev pub is_legal : SettingsFields → StateFields → Action → Bool
is_legal g s action = is_none (reason_of g s action)

-- none of the ten reasons applies
pub record IsAllowedNow (g : SettingsFields) (s : StateFields) (action : Action) : Type 0 where
  pub learned : is_learned g action ≡ true
  pub free : is_forbidden g action ≡ false
  pub first : (action ≡ MuscleMemory) ⊎ ((action ≡ Reflect) ⊎ (action ≡ TrainedEye)) → s.effects.first ≡ true
  pub stacks : action ≡ ByregotsBlessing → 0 < s.effects.iq
  pub ten : action ≡ TrainedFinesse → s.effects.iq ≡ 10
  pub no_waste : (action ≡ PrudentTouch) ⊎ (action ≡ PrudentSynthesis) → s.effects.waste ≡ 0
  pub ready : action ≡ TrainedPerfection → s.effects.perfection ≡ Ready
  pub paid : cp_cost_of action g.level s.effects.combo ≤ s.cp
  pub live : is_over g s ≡ false
  pub in_time : is_backloaded g s action ≡ false

-- The rest of this file's reasons are those of the checks in which a reason is looked for.

-- the refusal where the test fails
abbrev pub refused_unless : Bool → Illegal → Option Illegal
refused_unless true _ = None
refused_unless false why = Some why

-- the one reason of the third to the seventh that an action has, where it applies
abbrev pub effect_reason : EffectFields → Action → Option Illegal
effect_reason e MuscleMemory = refused_unless e.first NotFirst
effect_reason e Reflect = refused_unless e.first NotFirst
effect_reason e TrainedEye = refused_unless e.first NotFirst
effect_reason e ByregotsBlessing = refused_unless (nat_lt 0 e.iq) NoStacks
effect_reason e TrainedFinesse = refused_unless (e.iq == 10) NotTen
effect_reason e PrudentTouch = refused_unless (e.waste == 0) UnderWaste
effect_reason e PrudentSynthesis = refused_unless (e.waste == 0) UnderWaste
effect_reason e TrainedPerfection = refused_unless (is_ready e.perfection) PerfectionSpent
effect_reason e _ = None

-- the first reason, if it is one of the last three
abbrev pub late_reason : SettingsFields → StateFields → Action → Option Illegal
late_reason g s action =
    if nat_lt s.cp (cp_cost_of action g.level s.effects.combo)
    then Some (NotEnoughCp s.cp (cp_cost_of action g.level s.effects.combo))
    else if is_over g s then Some Finished
    else if is_backloaded g s action then Some Backloaded
    else None

-- the settings' reasons first, and then the others
abbrev pub after_settings : (learned forbidden : Bool) → Option Illegal → Option Illegal
after_settings learned forbidden other = if not learned then Some NotLearned else if forbidden then Some Forbidden else other

-- the reason that the checks find, one after another
unfoldable pub found_reason : SettingsFields → StateFields → Action → Option Illegal
found_reason g s action =
    after_settings (is_learned g action) (is_forbidden g action) (option_or (effect_reason s.effects action) (late_reason g s action))

-- the state is one of a craft with these settings
pub record IsWithin (g : SettingsFields) (s : StateFields) : Type 0 where
  pub settings : AreSettings g
  pub state : IsState s
  pub effects : AreEffects s.effects
  pub cp : s.cp ≤ g.cp
  pub durability : s.durability ≤ g.durability
  pub progress : s.progress ≤ g.progress
  pub quality : s.quality ≤ g.quality
