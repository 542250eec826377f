-- One more action of a run.
use Rattle.std.proofs.Common.{◌≡◌, ◌++◌, ◌∷◌, [], List, Some, None, true, false, refl, if◌then◌else◌, arith, ℕ, ◌+◌, ◌<◌, take, get_or, length, ◌≤◌, ◌*◌, ◌/◌, subst, ap, slice_get, suc, zero}
use Rattle.std.proofs.lemmas.Option.{slice_get-get_or}
use Rattle.step_rules.specs.Macro.{Completes}
use Rattle.craft_settings.specs.Ranges.{AreSettings}
use Rattle.step_rules.specs.Legality.{IsWithin, start_of}
use Rattle.step_rules.specs.Measure.{measure}
use Rattle.step_rules.proofs.Bounds.{IsWithin-step, IsWithin-start}
use Rattle.step_rules.proofs.MeasureFalls.{measure_falls, measure-start}
use Rattle.std.proofs.lemmas.List.{take_more}
use Rattle.action_table.specs.declared.action.Action.{Action}
use Rattle.craft_state.specs.Craft.{StateFields}
use Rattle.craft_settings.specs.Ranges.{SettingsFields}
use Rattle.step_rules.specs.Legality.{is_legal}
use Rattle.step_rules.specs.Step.{step_of}
use Rattle.step_rules.specs.Run.{run_of}

pub run_of-snoc : (g : SettingsFields) (from state : StateFields) (before : List Action) (action : Action) →
    run_of g from before ≡ Some state → is_legal g state action ≡ true →
    run_of g from (before ++ action ∷ []) ≡ Some (step_of g state action)
run_of-snoc g from state [] action ran legal = grind arith
run_of-snoc g from state (first ∷ rest) action ran legal =
    elim (is_legal g from first) as (λ b. (if b then run_of g (step_of g from first) rest else None) ≡ Some state → (if b then run_of g (step_of g from first) (rest ++ action ∷ []) else None) ≡ Some (step_of g state action)) [
      | true ↦ λ h. run_of-snoc g (step_of g from first) state rest action h legal
      | false ↦ λ h. cc
    ] ran

-- the same for the actions up to a place of a longer list
pub run_of-take : (g : SettingsFields) (from state : StateFields) (actions : List Action) (place : ℕ) (d : Action) →
    place < length actions → run_of g from (take place actions) ≡ Some state → is_legal g state (get_or actions place d) ≡ true →
    run_of g from (take (place + 1) actions) ≡ Some (step_of g state (get_or actions place d))
run_of-take g from state actions place d inside ran legal =
    rw (take_more actions place d inside) (run_of-snoc g from state (take place actions) (get_or actions place d) ran legal)

-- a run within bounds ends within bounds
pub IsWithin-run : (g : SettingsFields) (from last : StateFields) (actions : List Action) →
    IsWithin g from → run_of g from actions ≡ Some last → IsWithin g last
IsWithin-run g from last [] within ran =
    let e : from ≡ last = cc in
    subst (λ (s : StateFields). IsWithin g s) e within
IsWithin-run g from last (action ∷ rest) within ran =
    elim (is_legal g from action) as (λ b. (if b then run_of g (step_of g from action) rest else None) ≡ Some last → IsWithin g last) [
      | true ↦ λ h. IsWithin-run g (step_of g from action) last rest (IsWithin-step g from action within) h
      | false ↦ λ h. cc
    ] ran

-- each action of a run lowers the measure by at least 4
pub measure-run : (g : SettingsFields) (from last : StateFields) (actions : List Action) →
    IsWithin g from → run_of g from actions ≡ Some last → measure last + 4 * length actions ≤ measure from
measure-run g from last [] within ran =
    let e : from ≡ last = cc in
    subst (λ (s : StateFields). measure s + 4 * 0 ≤ measure from) e (omega arith)
measure-run g from last (action ∷ rest) within ran =
    elim (is_legal g from action) as (λ b. is_legal g from action ≡ b → (if b then run_of g (step_of g from action) rest else None) ≡ Some last → measure last + 4 * length (action ∷ rest) ≤ measure from) [
      | true ↦ λ legal h.
          let after = measure-run g (step_of g from action) last rest (IsWithin-step g from action within) h in
          let falls = measure_falls g from action within legal in
          omega (arith, after, falls)
      | false ↦ λ legal h. cc
    ] refl ran

-- no macro is longer than the most
pub length-macro : (g : SettingsFields) (last : StateFields) (actions : List Action) →
    AreSettings g → run_of g (start_of g) actions ≡ Some last → length actions ≤ 272
length-macro g last actions settings ran =
    let falls = measure-run g (start_of g) last actions (IsWithin-start g settings) ran in
    let top = measure-start g settings in
    omega (arith, falls, top)

-- nor longer than a quarter of the measure at the start
pub length-by-measure : (g : SettingsFields) (last : StateFields) (actions : List Action) →
    AreSettings g → run_of g (start_of g) actions ≡ Some last → length actions ≤ measure (start_of g) / 4
length-by-measure g last actions settings ran =
    let falls = measure-run g (start_of g) last actions (IsWithin-start g settings) ran in
    omega (arith, falls)

-- two runs from one state by one list end in one state, and a run goes on after a run
pub run_of-append : (g : SettingsFields) (from middle : StateFields) (first second : List Action) →
    run_of g from first ≡ Some middle → run_of g from (first ++ second) ≡ run_of g middle second
run_of-append g from middle [] second ran = let e : from ≡ middle = cc in ap (λ s. run_of g s second) e
run_of-append g from middle (action ∷ rest) second ran =
    elim (is_legal g from action) as (λ b. (if b then run_of g (step_of g from action) rest else None) ≡ Some middle → (if b then run_of g (step_of g from action) (rest ++ second) else None) ≡ run_of g middle second) [
      | true ↦ λ h. run_of-append g (step_of g from action) middle rest second h
      | false ↦ λ h. cc
    ] ran

-- no run goes past an illegal action
pub run_of-stopped : (g : SettingsFields) (from state : StateFields) (actions : List Action) (place : ℕ) (action : Action) →
    run_of g from (take place actions) ≡ Some state → slice_get actions place ≡ Some action → is_legal g state action ≡ false →
    run_of g from actions ≡ None
run_of-stopped g from state [] place action ran at bad = cc
run_of-stopped g from state (first ∷ rest) zero action ran at bad =
    let e : from ≡ state = cc in
    let a : first ≡ action = cc in
    let legal : is_legal g from first ≡ false = rw (e, a) bad in
    ap (λ b. if b then run_of g (step_of g from first) rest else None) legal
run_of-stopped g from state (first ∷ rest) (suc place) action ran at bad =
    elim (is_legal g from first) as (λ b. (if b then run_of g (step_of g from first) (take place rest) else None) ≡ Some state → (if b then run_of g (step_of g from first) rest else None) ≡ None) [
      | true ↦ λ h. run_of-stopped g (step_of g from first) state rest place action h at bad
      | false ↦ λ h. refl
    ] ran

-- each action of a macro is legal in its turn
pub next_legal : (g : SettingsFields) (state : StateFields) (actions : List Action) (place : ℕ) (d : Action) → place < length actions →
    Completes g (start_of g) actions → run_of g (start_of g) (take place actions) ≡ Some state → is_legal g state (get_or actions place d) ≡ true
next_legal g state actions place d inside completes ran =
    elim (is_legal g state (get_or actions place d)) as (λ b. is_legal g state (get_or actions place d) ≡ b → b ≡ true) [
      | true ↦ λ h. refl
      | false ↦ λ h.
          let stopped : run_of g (start_of g) actions ≡ None = run_of-stopped g (start_of g) state actions place (get_or actions place d) ran (slice_get-get_or actions place d inside) h in
          let ended = completes.ran in
          cc
    ] refl
