-- What legality says.
use Rattle.std.proofs.Common.{◌≡◌, ◌≤◌, ◌<◌, ◌⊎◌, ◌&&◌, ◌==◌, ℕ, Bool, true, false, List, [], ◌∷◌, Option, Some, None, arith, refl, ap, ◌∙◌, not, if◌then◌else◌, is_none, nat_lt, inl, inr}
use Rattle.plain_lemmas.proofs.Tests.{not_false, eq_from, lt_to, not_lt}
use Rattle.std.proofs.lemmas.Bool.Decides.{nat_tests}
use Rattle.std.specs.Option.{option_or}
use Rattle.step_rules.specs.declared.legality.Illegal.{Illegal}
use Rattle.step_rules.specs.declared.legality.Illegal.TheVariants.{NotFirst, NoStacks, NotTen, UnderWaste, PerfectionSpent}
use Rattle.action_table.specs.declared.action.Action.{Action}
use Rattle.action_table.specs.declared.action.Action.TheVariants.{MuscleMemory, Reflect, TrainedEye, ByregotsBlessing, TrainedFinesse, PrudentTouch, PrudentSynthesis, TrainedPerfection}
use Rattle.craft_state.specs.declared.Perfection.{Perfection}
use Rattle.craft_state.specs.declared.Perfection.TheVariants.{Ready}
use Rattle.craft_state.specs.Craft.{StateFields}
use Rattle.craft_settings.specs.Ranges.{SettingsFields}
use Rattle.craft_settings.specs.Rules.{is_learned, is_forbidden}
use Rattle.combo_effects.specs.Combos.{cp_cost_of}
use Rattle.step_rules.specs.Legality.{is_legal, is_ready, is_among, reasons, first_reason, reason_of, refused_unless, effect_reason, late_reason, after_settings, found_reason, IsAllowedNow}

-- ---- tests

-- the second of two tests fails, where the first holds and not both do
clear : (a b : Bool) → (a && b) ≡ false → a ≡ true → b ≡ false
clear true b h e = h
clear false b h e = absurd (cc)

block : (a b : Bool) → (a ≡ true → b ≡ false) → (a && b) ≡ false
block true b h = h refl
block false b h = refl

some_number : (n : ℕ) → (n == 0) ≡ false → 0 < n
some_number n h = grind (arith, nat_tests)

not_zero : (n : ℕ) → 0 < n → (n == 0) ≡ false
not_zero n h = grind (arith, nat_tests)

affordable : (has needs : ℕ) → needs ≤ has → nat_lt has needs ≡ false
affordable has needs h = grind (arith, nat_tests)

ready-is : (p : Perfection) → is_ready p ≡ true → p ≡ Ready
ready-is Ready h = refl
ready-is _ h = absurd (cc)

-- ---- the actions of a reason

among-openers : (a : Action) → (a ≡ MuscleMemory) ⊎ ((a ≡ Reflect) ⊎ (a ≡ TrainedEye)) → is_among a (MuscleMemory ∷ Reflect ∷ TrainedEye ∷ []) ≡ true
among-openers a (inl e) = rw e refl
among-openers a (inr (inl e)) = rw e refl
among-openers a (inr (inr e)) = rw e refl

openers : (a : Action) → is_among a (MuscleMemory ∷ Reflect ∷ TrainedEye ∷ []) ≡ true → (a ≡ MuscleMemory) ⊎ ((a ≡ Reflect) ⊎ (a ≡ TrainedEye))
openers MuscleMemory h = inl refl
openers Reflect h = inr (inl refl)
openers TrainedEye h = inr (inr refl)
openers _ h = absurd (cc)

among-prudent : (a : Action) → (a ≡ PrudentTouch) ⊎ (a ≡ PrudentSynthesis) → is_among a (PrudentTouch ∷ PrudentSynthesis ∷ []) ≡ true
among-prudent a (inl e) = rw e refl
among-prudent a (inr e) = rw e refl

prudent : (a : Action) → is_among a (PrudentTouch ∷ PrudentSynthesis ∷ []) ≡ true → (a ≡ PrudentTouch) ⊎ (a ≡ PrudentSynthesis)
prudent PrudentTouch h = inl refl
prudent PrudentSynthesis h = inr refl
prudent _ h = absurd (cc)

among-byregots : (a : Action) → a ≡ ByregotsBlessing → is_among a (ByregotsBlessing ∷ []) ≡ true
among-byregots a e = rw e refl

byregots : (a : Action) → is_among a (ByregotsBlessing ∷ []) ≡ true → a ≡ ByregotsBlessing
byregots ByregotsBlessing h = refl
byregots _ h = absurd (cc)

among-finesse : (a : Action) → a ≡ TrainedFinesse → is_among a (TrainedFinesse ∷ []) ≡ true
among-finesse a e = rw e refl

finesse : (a : Action) → is_among a (TrainedFinesse ∷ []) ≡ true → a ≡ TrainedFinesse
finesse TrainedFinesse h = refl
finesse _ h = absurd (cc)

among-perfection : (a : Action) → a ≡ TrainedPerfection → is_among a (TrainedPerfection ∷ []) ≡ true
among-perfection a e = rw e refl

perfection : (a : Action) → is_among a (TrainedPerfection ∷ []) ≡ true → a ≡ TrainedPerfection
perfection TrainedPerfection h = refl
perfection _ h = absurd (cc)

-- ---- no reason applies

abbrev NoneHolds : List (Bool × Illegal) → Type 0
NoneHolds [] = Unit {0}
NoneHolds (r ∷ rest) = (r.0 ≡ false) × NoneHolds rest

none_holds : (rs : List (Bool × Illegal)) → is_none (first_reason rs) ≡ true → NoneHolds rs
none_holds [] h = tt
none_holds ((true, why) ∷ rest) h = absurd (cc)
none_holds ((false, why) ∷ rest) h = (refl, none_holds rest h)

none_first : (rs : List (Bool × Illegal)) → NoneHolds rs → is_none (first_reason rs) ≡ true
none_first [] h = refl
none_first ((true, why) ∷ rest) h = let bad : true ≡ false = h.0 in absurd (cc)
none_first ((false, why) ∷ rest) h = none_first rest h.1

pub legal_facts : (g : SettingsFields) (s : StateFields) (action : Action) → is_legal g s action ≡ true → IsAllowedNow g s action
unfolding reason_of
legal_facts g s action legal =
    let h = none_holds (reasons g s action) legal in
    record {
      learned = not_false (is_learned g action) h.0;
      free = h.1.0;
      first = λ is. not_false s.effects.first (clear (is_among action (MuscleMemory ∷ Reflect ∷ TrainedEye ∷ [])) (not s.effects.first) h.1.1.0 (among-openers action is));
      stacks = λ is. some_number s.effects.iq (clear (is_among action (ByregotsBlessing ∷ [])) (s.effects.iq == 0) h.1.1.1.0 (among-byregots action is));
      ten = λ is. eq_from s.effects.iq 10 (not_false (s.effects.iq == 10) (clear (is_among action (TrainedFinesse ∷ [])) (not (s.effects.iq == 10)) h.1.1.1.1.0 (among-finesse action is)));
      no_waste = λ is. eq_from s.effects.waste 0
          (not_false (s.effects.waste == 0) (clear (is_among action (PrudentTouch ∷ PrudentSynthesis ∷ [])) (not (s.effects.waste == 0)) h.1.1.1.1.1.0 (among-prudent action is)));
      ready = λ is. ready-is s.effects.perfection
          (not_false (is_ready s.effects.perfection) (clear (is_among action (TrainedPerfection ∷ [])) (not (is_ready s.effects.perfection)) h.1.1.1.1.1.1.0 (among-perfection action is)));
      paid = not_lt s.cp (cp_cost_of action g.level s.effects.combo) h.1.1.1.1.1.1.1.0;
      live = h.1.1.1.1.1.1.1.1.0;
      in_time = h.1.1.1.1.1.1.1.1.1.0;
    }

-- and that makes the action legal
pub legal_by : (g : SettingsFields) (s : StateFields) (action : Action) → IsAllowedNow g s action → is_legal g s action ≡ true
unfolding reason_of
legal_by g s action facts =
    none_first (reasons g s action) (
      ap not facts.learned,
      (
        facts.free,
        (
          block (is_among action (MuscleMemory ∷ Reflect ∷ TrainedEye ∷ [])) (not s.effects.first) (λ is. ap not (facts.first (openers action is))),
          (
            block (is_among action (ByregotsBlessing ∷ [])) (s.effects.iq == 0) (λ is. not_zero s.effects.iq (facts.stacks (byregots action is))),
            (
              block (is_among action (TrainedFinesse ∷ [])) (not (s.effects.iq == 10)) (λ is. ap (λ n. not (n == 10)) (facts.ten (finesse action is))),
              (
                block (is_among action (PrudentTouch ∷ PrudentSynthesis ∷ [])) (not (s.effects.waste == 0)) (λ is. ap (λ n. not (n == 0)) (facts.no_waste (prudent action is))),
                (
                  block (is_among action (TrainedPerfection ∷ [])) (not (is_ready s.effects.perfection)) (λ is. ap (λ p. not (is_ready p)) (facts.ready (perfection action is))),
                  (
                    affordable s.cp (cp_cost_of action g.level s.effects.combo) facts.paid,
                    (
                      facts.live,
                      (
                        facts.in_time,
                        tt,
                      ),
                    ),
                  ),
                ),
              ),
            ),
          ),
        ),
      ),
    )

pub legal_paid : (g : SettingsFields) (s : StateFields) (action : Action) → is_legal g s action ≡ true → cp_cost_of action g.level s.effects.combo ≤ s.cp
legal_paid g s action legal = (legal_facts g s action legal).paid

-- the effects allow an action that no reason is against
pub effects_allow : (g : SettingsFields) (s : StateFields) (action : Action) → IsAllowedNow g s action → effect_reason s.effects action ≡ None
effects_allow g s MuscleMemory facts = ap (λ b. refused_unless b NotFirst) (facts.first (inl refl))
effects_allow g s Reflect facts = ap (λ b. refused_unless b NotFirst) (facts.first (inr (inl refl)))
effects_allow g s TrainedEye facts = ap (λ b. refused_unless b NotFirst) (facts.first (inr (inr refl)))
effects_allow g s ByregotsBlessing facts = ap (λ b. refused_unless b NoStacks) (lt_to 0 _ (facts.stacks refl))
effects_allow g s TrainedFinesse facts = ap (λ n. refused_unless (n == 10) NotTen) (facts.ten refl)
effects_allow g s PrudentTouch facts = ap (λ n. refused_unless (n == 0) UnderWaste) (facts.no_waste (inl refl))
effects_allow g s PrudentSynthesis facts = ap (λ n. refused_unless (n == 0) UnderWaste) (facts.no_waste (inr refl))
effects_allow g s TrainedPerfection facts = ap (λ p. refused_unless (is_ready p) PerfectionSpent) (facts.ready refl)
effects_allow g s _ facts = refl

-- ---- the reason that is found

refused_or : (b : Bool) (why : Illegal) (late : Option Illegal) → (if not b then Some why else late) ≡ option_or (refused_unless b why) late
refused_or true why late = refl
refused_or false why late = refl

zero_test : (n : ℕ) → (n == 0) ≡ not (nat_lt 0 n)
zero_test n = grind (arith, nat_tests)

-- the checks find the first reason that applies
pub reason_is : (g : SettingsFields) (s : StateFields) (action : Action) → reason_of g s action ≡ found_reason g s action
unfolding reason_of found_reason
reason_is g s MuscleMemory = ap (after_settings (is_learned g MuscleMemory) (is_forbidden g MuscleMemory)) (refused_or s.effects.first NotFirst (late_reason g s MuscleMemory))
reason_is g s Reflect = ap (after_settings (is_learned g Reflect) (is_forbidden g Reflect)) (refused_or s.effects.first NotFirst (late_reason g s Reflect))
reason_is g s TrainedEye = ap (after_settings (is_learned g TrainedEye) (is_forbidden g TrainedEye)) (refused_or s.effects.first NotFirst (late_reason g s TrainedEye))
reason_is g s ByregotsBlessing =
    let late = late_reason g s ByregotsBlessing in
    ap (after_settings (is_learned g ByregotsBlessing) (is_forbidden g ByregotsBlessing))
    (ap (λ b. if b then Some NoStacks else late) (zero_test s.effects.iq) ∙ refused_or (nat_lt 0 s.effects.iq) NoStacks late)
reason_is g s TrainedFinesse = ap (after_settings (is_learned g TrainedFinesse) (is_forbidden g TrainedFinesse)) (refused_or (s.effects.iq == 10) NotTen (late_reason g s TrainedFinesse))
reason_is g s PrudentTouch = ap (after_settings (is_learned g PrudentTouch) (is_forbidden g PrudentTouch)) (refused_or (s.effects.waste == 0) UnderWaste (late_reason g s PrudentTouch))
reason_is g s PrudentSynthesis = ap (after_settings (is_learned g PrudentSynthesis) (is_forbidden g PrudentSynthesis)) (refused_or (s.effects.waste == 0) UnderWaste (late_reason g s PrudentSynthesis))
reason_is g s TrainedPerfection = ap (after_settings (is_learned g TrainedPerfection) (is_forbidden g TrainedPerfection)) (refused_or (is_ready s.effects.perfection) PerfectionSpent (late_reason g s TrainedPerfection))
reason_is g s _ = refl
