-- The limits along a macro.
use Rattle.std.proofs.Common.{◌≡◌, ◌<◌, ◌≤◌, ◌+◌, ◌++◌, ◌∷◌, ◌∙◌, [], zero, suc, ℕ, Bool, List, Option, Some, true, false, refl, sym, ap, subst, arith, take, length, slice_get, get_or, nat_lt, true≢false, ◌||◌, ◌⊎◌, inl, inr}
use Rattle.step_rules.proofs.Runs.{next_legal}
use Rattle.std.proofs.lemmas.Bool.{cases_lt}
use Rattle.std.proofs.lemmas.List.{get_or_append_left, get_or_push, take_all}
use Rattle.action_table.specs.declared.action.Action.{Action}
use Rattle.action_table.specs.declared.action.Action.TheVariants.{BasicSynthesis}
use Rattle.craft_state.specs.Craft.{StateFields}
use Rattle.craft_settings.specs.Ranges.{SettingsFields}
use Rattle.step_rules.specs.Legality.{start_of, is_complete, is_over}
use Rattle.step_rules.specs.Macro.{Completes, counted}
use Rattle.step_rules.specs.Run.{run_of}
use Rattle.step_rules.proofs.LegalFacts.{legal_facts}
use Rattle.relaxed_moves.specs.Optimum.{limit_of}
use Rattle.replay_report.specs.States.{AreStatesOf}
use Rattle.replay_report.specs.Limits.{AreLimited, AreLimitsAlong, IsLimited}

-- the number of a state
pub record IsNumber (g : SettingsFields) (grain : ℕ) (s : StateFields) (number : Option ℕ) : Type 0 where
  pub going : is_complete g s ≡ false → limit_of g grain s ≡ number
  pub done : is_complete g s ≡ true → number ≡ Some (counted g s)

same_state : (o : Option StateFields) (a b : StateFields) → o ≡ Some a → o ≡ Some b → a ≡ b
same_state o a b first second = cc

-- a state before the last action isn't over
pub before_last_live : (g : SettingsFields) (m : List Action) (count : ℕ) (s : StateFields) → count < length m → Completes g (start_of g) m
    → run_of g (start_of g) (take count m) ≡ Some s → is_over g s ≡ false
before_last_live g m count s before completes ran =
    (legal_facts g s (get_or m count BasicSynthesis) (next_legal g s m count BasicSynthesis before completes ran)).live

-- the state after the last action is complete
pub last_complete : (g : SettingsFields) (m : List Action) (s : StateFields) → (whole : Completes g (start_of g) m)
    → run_of g (start_of g) m ≡ Some s → is_complete g s ≡ true
last_complete g m s whole ran = subst (λ x. is_complete g x ≡ true) (same_state _ _ _ whole.ran ran) whole.complete

not_complete : (complete broken : Bool) → (complete || broken) ≡ false → complete ≡ false
not_complete false broken h = refl
not_complete true broken h = absurd (true≢false h)

before_last_going : (g : SettingsFields) (m : List Action) (count : ℕ) (s : StateFields) → count < length m → Completes g (start_of g) m
    → run_of g (start_of g) (take count m) ≡ Some s → is_complete g s ≡ false
before_last_going g m count s before completes ran = not_complete _ _ (before_last_live g m count s before completes ran)

limited_by : (g : SettingsFields) (grain : ℕ) (m : List Action) (count : ℕ) (s : StateFields) (before : Bool) → nat_lt count (length m) ≡ before → 1 ≤ count → count ≤ length m
    → AreLimited g grain m → Completes g (start_of g) m → run_of g (start_of g) (take count m) ≡ Some s → is_complete g s ≡ false → IsLimited g grain s
limited_by g grain m count s true test low high limited completes ran going =
    limited.each count s low ran (before_last_live g m count s (grind arith) completes ran)
limited_by g grain m count s false test low high limited completes ran going =
    let all : take count m ≡ m = take_all count m (grind arith) in
    let done = last_complete g m s completes (subst (λ (ms : List Action). run_of g (start_of g) ms ≡ Some s) all ran) in
    absurd (true≢false (sym done ∙ going))

-- each state on the way that isn't complete has a limit
pub limited_on_way : (g : SettingsFields) (grain : ℕ) (m : List Action) (count : ℕ) (s : StateFields) → 1 ≤ count → count ≤ length m
    → AreLimited g grain m → Completes g (start_of g) m → run_of g (start_of g) (take count m) ≡ Some s → is_complete g s ≡ false → IsLimited g grain s
limited_on_way g grain m count s = limited_by g grain m count s (nat_lt count (length m)) refl

-- a state that is read
pub state_read : (g : SettingsFields) (from : StateFields) (m : List Action) (states : List StateFields) (count : ℕ) (s : StateFields) → AreStatesOf g from m states → count ≤ length m
    → s ≡ get_or states count s → run_of g from (take count m) ≡ Some s
state_read g from m states count s are low is = are.each count s low ∙ ap Some (sym is)

-- the states after at most so many actions
abbrev pub AreStatesTo : SettingsFields → StateFields → List Action → ℕ → List StateFields → Type 0
AreStatesTo g from m most states = (count : ℕ) (d : StateFields) → count ≤ most → run_of g from (take count m) ≡ Some (get_or states count d)

pub first_state : (g : SettingsFields) (from : StateFields) (m : List Action) (states : List StateFields) → states ≡ from ∷ [] → AreStatesTo g from m 0 states
first_state g from m states items count d low =
    let none : count ≡ 0 = omega arith in
    subst (λ n. run_of g from (take n m) ≡ Some (get_or states n d)) (sym none)
    (ap Some (sym (ap (λ l. get_or l 0 d) items)))

-- one more state
pub states_more : (g : SettingsFields) (from : StateFields) (m : List Action) (place : ℕ) (states : List StateFields) (state : StateFields) → length states ≡ place + 1 → AreStatesTo g from m place states
    → run_of g from (take (place + 1) m) ≡ Some state → AreStatesTo g from m (place + 1) (states ++ state ∷ [])
states_more g from m place states state as_many before ran count d low = go (cases_lt count (place + 1))
  where
    go : (count < place + 1) ⊎ (place + 1 ≤ count) → run_of g from (take count m) ≡ Some (get_or (states ++ state ∷ []) count d)
    go (inl below) = before count d (omega arith) ∙ ap Some (sym (get_or_append_left states (state ∷ []) d count (omega (arith, as_many))))
    go (inr above) =
        let last : count ≡ place + 1 = omega arith in
        subst (λ n. run_of g from (take n m) ≡ Some (get_or (states ++ state ∷ []) n d)) (sym last)
        (ran ∙ ap Some (sym (get_or_push states state d (place + 1) as_many)))

old_number : (numbers : List ℕ) (number place : ℕ) → place < length numbers → slice_get (numbers ++ number ∷ []) place ≡ slice_get numbers place
old_number [] number place inside = absurd (omega arith)
old_number (n ∷ rest) number zero inside = refl
old_number (n ∷ rest) number (suc place) inside = old_number rest number place (omega arith)

new_number : (numbers : List ℕ) (number : ℕ) → slice_get (numbers ++ number ∷ []) (length numbers) ≡ Some number
new_number [] number = refl
new_number (n ∷ rest) number = new_number rest number

abbrev pub AreNumbers : SettingsFields → ℕ → List Action → ℕ → List ℕ → Type 0
AreNumbers g grain m count numbers =
    (place : ℕ) (s : StateFields) → place < count → run_of g (start_of g) (take (place + 1) m) ≡ Some s → IsNumber g grain s (slice_get numbers place)

number_at : (g : SettingsFields) (grain : ℕ) (m : List Action) (count : ℕ) (numbers : List ℕ) (number : ℕ) (s : StateFields) → length numbers ≡ count → AreNumbers g grain m count numbers
    → run_of g (start_of g) (take (count + 1) m) ≡ Some s → IsNumber g grain s (Some number)
    → (place : ℕ) (t : StateFields) (old : Bool) → nat_lt place count ≡ old → place < count + 1 → run_of g (start_of g) (take (place + 1) m) ≡ Some t → IsNumber g grain t (slice_get (numbers ++ number ∷ []) place)
number_at g grain m count numbers number s as_many before ran is place t true test inside ran_t =
    subst (IsNumber g grain t) (sym (old_number numbers number place (grind arith))) (before place t (grind arith) ran_t)
number_at g grain m count numbers number s as_many before ran is place t false test inside ran_t =
    let last : place ≡ length numbers = grind arith in
    let same : s ≡ t = same_state (run_of g (start_of g) (take (place + 1) m)) s t (subst (λ (k : ℕ). run_of g (start_of g) (take (k + 1) m) ≡ Some s) (sym as_many ∙ sym last) ran) ran_t in
    subst (IsNumber g grain t) (sym (new_number numbers number) ∙ ap (slice_get (numbers ++ number ∷ [])) (sym last)) (subst (λ x. IsNumber g grain x (Some number)) same is)

-- one more number
pub numbers_more : (g : SettingsFields) (grain : ℕ) (m : List Action) (count : ℕ) (numbers : List ℕ) (number : ℕ) (s : StateFields) → length numbers ≡ count → AreNumbers g grain m count numbers
    → run_of g (start_of g) (take (count + 1) m) ≡ Some s → IsNumber g grain s (Some number) → AreNumbers g grain m (count + 1) (numbers ++ number ∷ [])
numbers_more g grain m count numbers number s as_many before ran is place t inside ran_t =
    number_at g grain m count numbers number s as_many before ran is place t (nat_lt place count) refl inside ran_t

-- all numbers are the limits
pub are_limits : (g : SettingsFields) (grain : ℕ) (m : List Action) (numbers : List ℕ) → Completes g (start_of g) m → length numbers ≡ length m
    → AreNumbers g grain m (length m) numbers → AreLimitsAlong g grain m numbers
are_limits g grain m numbers completes as_many each = record {
  as_many = as_many;
  before_last = λ place s before ran. sym ((each place s (omega arith) ran).going (before_last_going g m (place + 1) s before completes ran));
  at_last = λ place s last ran.
      let all : take (place + 1) m ≡ m = take_all (place + 1) m (omega arith) in
      (each place s (omega arith) (subst (λ (ms : List Action). run_of g (start_of g) ms ≡ Some s) (sym all) ran)).done (last_complete g m s completes ran);
}
