-- The live prefixes of each length from a state, and the fronts among them.
use Rattle.std.specs.Prelude.{ℕ, zero, suc, Bool, true, false, List, [], ◌∷◌, ◌++◌, ◌≡◌, ◌+◌, ◌-◌, ◌/◌, ◌<◌, ◌≤◌, ◌&&◌, ◌||◌, ◌==◌, not, nat_lt, filter, length, map, take, All, Contains, Some, ◌⊎◌}
use Rattle.std.specs.List.{flat_map, list_any}
use Rattle.action_table.specs.declared.action.Action.{Action}
use Rattle.action_table.specs.Table.{all_actions, action_seconds}
use Rattle.craft_state.specs.Craft.{StateFields}
use Rattle.craft_settings.specs.Ranges.{SettingsFields, AreSettings}
use Rattle.step_rules.specs.Legality.{start_of, is_complete, is_over, is_legal, IsWithin}
use Rattle.step_rules.specs.Step.{step_of}
use Rattle.craft_state.specs.NotLess.{IsNotLess, is_not_less}
use Rattle.step_rules.specs.Run.{run_of}
use Rattle.step_rules.specs.Measure.{measure}
use Rattle.step_rules.specs.Macro.{Completes, counted}
use Rattle.macro_order.specs.Order.{precedes, score_from, IsBestFrom}
use Rattle.macro_order.specs.declared.scores.Score.{Score}

-- a state of a craft with these settings that isn't over
pub record IsOpen (g : SettingsFields) (s : StateFields) : Type 0 where
  pub within : IsWithin g s
  pub live : is_over g s ≡ false

-- a list of actions from a state, with the state and the seconds that it leads to
pub record Prefix : Type 0 where
  pub actions : List Action
  pub state : StateFields
  pub seconds : ℕ

-- no action yet
abbrev pub empty_from : StateFields → Prefix
empty_from s = record { actions = []; state = s; seconds = 0 }

-- no action yet, from the start
abbrev pub empty_prefix : SettingsFields → Prefix
empty_prefix g = empty_from (start_of g)

-- one more action
abbrev pub extend : SettingsFields → Prefix → Action → Prefix
extend g p action = record {
  actions = p.actions ++ action ∷ [];
  state = step_of g p.state action;
  seconds = p.seconds + action_seconds action;
}

-- the action is legal, and its next state is live
abbrev pub goes_on : SettingsFields → StateFields → Action → Bool
goes_on g s action = is_legal g s action && not (is_over g (step_of g s action))

-- the live prefixes of one more action, in action order
abbrev pub children : SettingsFields → Prefix → List Prefix
children g p = map (extend g p) (filter (goes_on g p.state) all_actions)

-- the live legal prefixes of a length from a state, in order
unfoldable pub prefixes : SettingsFields → StateFields → ℕ → List Prefix
prefixes g s zero = empty_from s ∷ []
prefixes g s (suc k) = flat_map (children g) (prefixes g s k)

-- fewer seconds, or as many and the smaller action number at the first place of difference
abbrev pub is_sooner : Prefix → Prefix → Bool
is_sooner p q = nat_lt p.seconds q.seconds || (p.seconds == q.seconds && precedes p.actions q.actions)

-- the state is not less, and the prefix is sooner
unfoldable pub dominates : Prefix → Prefix → Bool
dominates p q = is_not_less p.state q.state && is_sooner p q

-- both are live legal prefixes of a length from a state, and the first dominates the second
pub record DominatesAt (g : SettingsFields) (s : StateFields) (k : ℕ) (p q : Prefix) : Type 0 where
  pub first : Contains (prefixes g s k) p
  pub second : Contains (prefixes g s k) q
  pub over : dominates p q ≡ true

-- no prefix of the list dominates this one
abbrev pub undominated : List Prefix → Prefix → Bool
undominated among p = not (list_any (λ q. dominates q p) among)

-- the prefixes of a list that none of its prefixes dominates
abbrev pub survivors : List Prefix → List Prefix
survivors among = filter (undominated among) among

-- a test of states by the number of actions left
abbrev pub Test : Type 0
Test = ℕ → StateFields → Bool

-- the passing prefixes of length k from a state that no prefix of this length dominates; the total length is n
unfoldable pub front : SettingsFields → StateFields → Test → ℕ → ℕ → List Prefix
front g s passes n k = filter (λ p. passes (n - k) p.state && undominated (prefixes g s k) p) (prefixes g s k)

-- what a test keeps: a state passes where a live next state does with one action fewer left, where a state that is
-- not more does, and where one action completes the craft with the target's quality
pub record AreLimits (g : SettingsFields) (target : ℕ) (passes : Test) : Type 0 where
  pub step : (j : ℕ) (s : StateFields) (action : Action) →
      IsWithin g s → is_over g s ≡ false → is_legal g s action ≡ true → is_over g (step_of g s action) ≡ false →
      passes j (step_of g s action) ≡ true → passes (j + 1) s ≡ true
  pub order : (j : ℕ) (a b : StateFields) →
      IsWithin g a → IsWithin g b → is_over g b ≡ false → IsNotLess a b → passes j b ≡ true → passes j a ≡ true
  pub last : (j : ℕ) (s : StateFields) (action : Action) →
      IsWithin g s → is_over g s ≡ false → is_legal g s action ≡ true → is_complete g (step_of g s action) ≡ true →
      target ≤ counted g (step_of g s action) → passes (j + 1) s ≡ true

-- the passing children of kept prefixes
abbrev pub next_children : SettingsFields → Test → ℕ → List Prefix → List Prefix
next_children g passes left kept = filter (λ c. passes left c.state) (flat_map (children g) kept)

-- the action completes with the quality that is wanted
abbrev pub finishes : SettingsFields → ℕ → StateFields → Action → Bool
finishes g target s action =
    is_legal g s action && (is_complete g (step_of g s action) && counted g (step_of g s action) == target)

-- the completions of kept prefixes with the quality that is wanted, in order
abbrev pub finishers : SettingsFields → ℕ → List Prefix → List Prefix
finishers g target kept = flat_map (λ p. map (extend g p) (filter (finishes g target p.state) all_actions)) kept

-- the completions of n actions that the last front leads to
abbrev pub completions : SettingsFields → StateFields → ℕ → Test → ℕ → List Prefix
completions g s target passes n = finishers g target (front g s passes n (n - 1))

-- no list that completes the craft from a state has more quality
abbrev pub IsGreatestFrom : SettingsFields → StateFields → ℕ → Type 0
IsGreatestFrom g from target = (m : List Action) (b : Score) → score_from g from m ≡ Some b → b.quality ≤ target

-- no complete legal macro has more quality
abbrev pub IsGreatest : SettingsFields → ℕ → Type 0
IsGreatest g target = IsGreatestFrom g (start_of g) target

-- some list completes the craft from a state with this quality
pub record IsReachedFrom (g : SettingsFields) (from : StateFields) (quality : ℕ) : Type 0 where
  pub actions : List Action
  pub completes : Completes g from actions
  pub same : counted g completes.last ≡ quality

-- the first of the completions of a list, by seconds and then by the actions
abbrev pub IsSoonest : Prefix → List Prefix → Type 0
IsSoonest p among = All (λ q. (p ≡ q) ⊎ (is_sooner p q ≡ true)) among

-- what shows that a list of n actions is the best from a state
pub record IsFirstFound (g : SettingsFields) (s : StateFields) (target : ℕ) (passes : Test) (n : ℕ) (found : Prefix) : Type 0 where
  pub some : 0 < n
  pub none_before : (j : ℕ) → 0 < j → j < n → completions g s target passes j ≡ []
  pub among : Contains (completions g s target passes n) found
  pub soonest : IsSoonest found (completions g s target passes n)

-- a list of actions is that of one of these prefixes
abbrev pub IsListOf : List Action → List Prefix → Type 0
IsListOf m among = (q : Prefix) × Contains among q × (m ≡ q.actions)

-- the start is open
abbrev pub start_is_open : Type 0
start_is_open = (g : SettingsFields) → AreSettings g → IsOpen g (start_of g)

-- what legal actions lead to from an open state is open, unless it is over
abbrev pub stays_open : Type 0
stays_open = (g : SettingsFields) (s last : StateFields) (m : List Action) →
    IsOpen g s → run_of g s m ≡ Some last → is_over g last ≡ false → IsOpen g last

-- the first completion that is found is the best from the state
abbrev pub first_is_best : Type 0
first_is_best = (g : SettingsFields) (s : StateFields) (target : ℕ) (passes : Test) (n : ℕ) (found : Prefix) →
    IsOpen g s → AreLimits g target passes → IsGreatestFrom g s target →
    IsFirstFound g s target passes n found → IsBestFrom g s found.actions

-- the front of no action is the state itself, if it passes
abbrev pub first_front : Type 0
first_front = (g : SettingsFields) (s : StateFields) (passes : Test) (n : ℕ) →
    front g s passes n 0 ≡ filter (λ p. passes n p.state) (empty_from s ∷ [])

-- the undominated passing children of a front are the next front
abbrev pub next_fronts : Type 0
next_fronts = (g : SettingsFields) (s : StateFields) (target : ℕ) (passes : Test) (n k : ℕ) →
    IsOpen g s → AreLimits g target passes → k + 1 < n →
    survivors (next_children g passes (n - (k + 1)) (front g s passes n k)) ≡ front g s passes n (k + 1)

-- each proper prefix of what the last front leads to is in its front
abbrev pub prefixes_in_fronts : Type 0
prefixes_in_fronts = (g : SettingsFields) (s : StateFields) (target : ℕ) (passes : Test) (n k : ℕ) (c : Prefix) →
    IsOpen g s → AreLimits g target passes → k < n →
    Contains (completions g s target passes n) c → IsListOf (take k c.actions) (front g s passes n k)

-- a live child of a dominated prefix is dominated, by the same child of the prefix that dominates it
abbrev pub dominance_passes_on : Type 0
dominance_passes_on = (g : SettingsFields) (s : StateFields) (k : ℕ) (p q : Prefix) (action : Action) →
    IsOpen g s → DominatesAt g s k p q → goes_on g q.state action ≡ true →
    DominatesAt g s (k + 1) (extend g p action) (extend g q action)

-- a dominated prefix is no prefix of the best list from the state
abbrev pub best_is_undominated : Type 0
best_is_undominated = (g : SettingsFields) (s : StateFields) (m : List Action) (k : ℕ) (p q : Prefix) →
    IsOpen g s → IsBestFrom g s m → DominatesAt g s k p q → take k m ≡ q.actions → ⊥

-- each proper prefix of the best list from the state is one of the undominated prefixes of its length
abbrev pub best_survives : Type 0
best_survives = (g : SettingsFields) (s : StateFields) (m : List Action) (k : ℕ) →
    IsOpen g s → IsBestFrom g s m → k < length m → IsListOf (take k m) (survivors (prefixes g s k))

-- where a list completes with the quality that is wanted, some completion has as many actions, and a list from an open
-- state isn't longer than a quarter of the state's measure
abbrev pub reached_is_found : Type 0
reached_is_found = (g : SettingsFields) (s : StateFields) (target : ℕ) (passes : Test) (reached : IsReachedFrom g s target) →
    IsOpen g s → AreLimits g target passes → IsGreatestFrom g s target →
    (1 ≤ length reached.actions) × (length reached.actions ≤ measure s / 4) ×
    (0 < length (completions g s target passes (length reached.actions)))
