-- Each prefix of a macro that completes the craft has a limit.
use Rattle.std.proofs.Common.{◌≡◌, ◌≢◌, ◌≤◌, ◌∙◌, ◌==◌, [], ◌∷◌, ℕ, zero, suc, List, Option, Some, None, true, false, sym, subst, arith, drop, length, take}
use Rattle.std.proofs.lemmas.List.{take-append-drop}
use Rattle.action_table.specs.declared.action.Action.{Action}
use Rattle.craft_state.specs.Craft.{StateFields}
use Rattle.craft_settings.specs.Ranges.{SettingsFields, AreSettings}
use Rattle.step_rules.specs.Legality.{start_of, is_complete, is_over, IsWithin}
use Rattle.step_rules.specs.Macro.{Completes, counted}
use Rattle.step_rules.specs.Run.{run_of}
use Rattle.step_rules.proofs.Runs.{run_of-append, IsWithin-run}
use Rattle.step_rules.proofs.Bounds.{IsWithin-start}
use Rattle.relaxed_moves.specs.Budget.{potential_of, start_potential_of}
use Rattle.relaxed_moves.specs.Optimum.{option_le, limit_of}
use Rattle.replay_report.specs.Limits.{AreLimited}

abbrev pub PotentialLaw : Type 0
PotentialLaw = (g : SettingsFields) (actions : List Action) (s : StateFields) → AreSettings g → run_of g (start_of g) actions ≡ Some s → potential_of g s ≤ start_potential_of g

abbrev pub LaterLaw : Type 0
LaterLaw = (g : SettingsFields) (actions : List Action) (s : StateFields) → 1 ≤ length actions → run_of g (start_of g) actions ≡ Some s → s.effects.first ≡ false

abbrev pub LimitLaw : Type 0
LimitLaw = (g : SettingsFields) (grain : ℕ) (s : StateFields) (actions : List Action) → 1 ≤ grain → IsWithin g s → s.effects.first ≡ false → is_over g s ≡ false → (whole : Completes g s actions) → option_le (Some (counted g whole.last)) (limit_of g grain s)

has_some : (o : Option ℕ) (n : ℕ) → option_le (Some n) o → o ≢ None
has_some None n le = absurd le
has_some (Some x) n le = λ same. cc

-- the rest of a macro completes the craft from the state on the way
rest_completes : (g : SettingsFields) (m : List Action) (count : ℕ) (s : StateFields) → Completes g (start_of g) m → run_of g (start_of g) (take count m) ≡ Some s → Completes g s (drop count m)
rest_completes g m count s whole ran = record {
  last = whole.last;
  ran = sym (run_of-append g (start_of g) s (take count m) (drop count m) ran) ∙ subst (λ (ms : List Action). run_of g (start_of g) ms ≡ Some whole.last) (sym (take-append-drop count m)) whole.ran;
  complete = whole.complete;
}

-- a craft isn't complete at its start
some_action : (g : SettingsFields) (m : List Action) (count : ℕ) → AreSettings g → Completes g (start_of g) m → 1 ≤ count → 1 ≤ length (take count m)
some_action g [] count settings whole low =
    let same : start_of g ≡ whole.last = cc in
    let complete : (0 == g.progress) ≡ true = subst (λ (s : StateFields). is_complete g s ≡ true) (sym same) whole.complete in
    let none : g.progress ≡ 0 = grind arith in
    absurd (omega (arith, settings.progress.low, none))
some_action g (action ∷ rest) zero settings whole low = elim low [ ]
some_action g (action ∷ rest) (suc count) settings whole low = omega arith

pub are_limited : (g : SettingsFields) (grain : ℕ) (m : List Action) → AreSettings g → 1 ≤ grain → Completes g (start_of g) m → PotentialLaw → LaterLaw → LimitLaw → AreLimited g grain m
are_limited g grain m settings low whole potential later limit = record {
  each = λ count s from ran live.
      let within = IsWithin-run g (start_of g) s (take count m) (IsWithin-start g settings) ran in
      let rest = rest_completes g m count s whole ran in
      record {
        has = has_some (limit_of g grain s) (counted g rest.last) (limit g grain s (drop count m) low within (later g (take count m) s (some_action g m count settings whole from) ran) live rest);
        potential = potential g (take count m) s settings ran;
      };
}
