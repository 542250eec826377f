-- What a sweep keeps true.
use Rattle.std.specs.Prelude.{ℕ, true, false, List, Option, Some, ◌≡◌, ◌⊎◌, ◌<◌, ◌≤◌, [], min, length, IfSome, All, Contains}
use Rattle.action_table.specs.declared.action.Action.{Action}
use Rattle.craft_state.specs.Craft.{StateFields}
use Rattle.craft_state.specs.NotLess.{IsNotLess}
use Rattle.craft_settings.specs.Ranges.{SettingsFields}
use Rattle.craft_settings.specs.Rules.{cap_of}
use Rattle.step_rules.specs.Legality.{is_complete, is_legal, is_over, IsWithin}
use Rattle.step_rules.specs.Step.{step_of}
use Rattle.step_rules.specs.Run.{run_of}
use Rattle.step_rules.specs.Macro.{counted}
use Rattle.relaxed_moves.specs.Optimum.{option_le}
use Rattle.pareto_front.specs.Kept.{IsCovered}
use Rattle.quality_sweep.specs.declared.candidate.Candidate.{Candidate}
use Rattle.quality_sweep.specs.Ahead.{IsOpen, IsReachedFrom, IsAtMost, NoBetter, is_above}
use Rattle.quality_sweep.specs.Places.{place_of, places_of}
use Rattle.quality_sweep.specs.Shelves.{ShelvesFields, shelf, Waits}

-- the best quality doesn't fall
abbrev pub Rises : Option ℕ → Option ℕ → Type 0
Rises before after = option_le before after

-- the best quality stays, or is one that was reached
abbrev pub Becomes : SettingsFields → StateFields → Option ℕ → Option ℕ → Type 0
Becomes g from before after = (after ≡ before) ⊎ IfSome after (IsReachedFrom g from)

-- legal actions lead from one state to another
pub record IsReachable (g : SettingsFields) (from s : StateFields) : Type 0 where
  pub actions : List Action
  pub runs : run_of g from actions ≡ Some s

-- an open state that legal actions lead to, of which the ceiling may be asked, and whose completions keep to its limit
pub record IsWaiting (g : SettingsFields) (allows : StateFields → Type 0) (from : StateFields) (c : Candidate) : Type 0 where
  pub reachable : IsReachable g from c.state
  pub open_state : IsOpen g c.state
  pub allowed : allows c.state
  pub most : NoBetter g c.state (Some c.limit)

-- a state after an action, of which the ceiling may be asked where it is open
pub record IsChild (g : SettingsFields) (allows : StateFields → Type 0) (from s : StateFields) : Type 0 where
  pub reachable : IsReachable g from s
  pub within : IsWithin g s
  pub later : s.effects.first ≡ false
  pub allowed : IsOpen g s → allows s

-- one of these states is not less
pub record IsCoveredBy (among : StateFields → Type 0) (s : StateFields) : Type 0 where
  pub cover : StateFields
  pub is_there : among cover
  pub not_less : IsNotLess cover s

-- a state that may be forgotten
abbrev pub IsSettled : SettingsFields → (StateFields → Type 0) → Option ℕ → StateFields → Type 0
IsSettled g among best s = NoBetter g s best ⊎ IsCoveredBy among s

-- a state all of whose children may be forgotten
abbrev pub IsExpanded : SettingsFields → (StateFields → Type 0) → Option ℕ → StateFields → Type 0
IsExpanded g among best s = (a : Action) → is_legal g s a ≡ true → IsSettled g among best (step_of g s a)

-- the state is that of a candidate of the list
pub record Stands (cs : List Candidate) (s : StateFields) : Type 0 where
  pub candidate : Candidate
  pub there : Contains cs candidate
  pub same : candidate.state ≡ s

-- a legal action leads from one state to the other
pub record IsNext (g : SettingsFields) (s t : StateFields) : Type 0 where
  pub action : Action
  pub legal : is_legal g s action ≡ true
  pub same : t ≡ step_of g s action

-- what looking at a child does to the found children and the best quality
pub record Visits (g : SettingsFields) (allows : StateFields → Type 0) (from c : StateFields) (found found' : List Candidate)
    (best best' : Option ℕ) : Type 0 where
  pub settled : IsSettled g (Stands found') best' c
  pub keeps : (x : Candidate) → Contains found x → Contains found' x
  pub fresh : (x : Candidate) → Contains found' x → Contains found x ⊎ (x.state ≡ c)
  pub waits : All (IsWaiting g allows from) found → All (IsWaiting g allows from) found'
  pub rises : Rises best best'
  pub becomes : Becomes g from best best'

-- what looking at the children by some actions does
pub record Expands (g : SettingsFields) (allows : StateFields → Type 0) (from s : StateFields) (tried : List Action)
    (found found' : List Candidate) (best best' : Option ℕ) : Type 0 where
  pub expanded : (a : Action) → Contains tried a → is_legal g s a ≡ true → IsSettled g (Stands found') best' (step_of g s a)
  pub keeps : (x : Candidate) → Contains found x → Contains found' x
  pub fresh : (x : Candidate) → Contains found' x → Contains found x ⊎ IsNext g s x.state
  pub waits : All (IsWaiting g allows from) found → All (IsWaiting g allows from) found'
  pub rises : Rises best best'
  pub becomes : Becomes g from best best'

-- a legal action leads to the state from some state of the batch
pub record IsFoundBy (g : SettingsFields) (batch : List Candidate) (s : StateFields) : Type 0 where
  pub parent : Candidate
  pub there : Contains batch parent
  pub next : IsNext g parent.state s

-- what expanding a batch does
pub record Explores (g : SettingsFields) (allows : StateFields → Type 0) (from : StateFields) (batch found : List Candidate)
    (best best' : Option ℕ) : Type 0 where
  pub expanded : (p : Candidate) → Contains batch p → IsExpanded g (Stands found) best' p.state
  pub fresh : (x : Candidate) → Contains found x → IsFoundBy g batch x.state
  pub waits : All (IsWaiting g allows from) found
  pub rises : Rises best best'
  pub becomes : Becomes g from best best'

-- the limit, or the cap where this is less, is not above the best quality; or a kept state is not less
abbrev pub IsPassedOver : SettingsFields → List StateFields → Option ℕ → Candidate → Type 0
IsPassedOver g kept best c = (is_above (min (cap_of g) c.limit) best ≡ false) ⊎ IsCovered kept c.state

-- what choosing from candidates does: each is passed over or kept, and what is newly kept is chosen
pub record Chooses (g : SettingsFields) (batch : List Candidate) (best : Option ℕ) (kept kept' : List StateFields)
    (chosen chosen' : List Candidate) : Type 0 where
  pub each : (c : Candidate) → Contains batch c → IsPassedOver g kept' best c
  pub keeps : (k : StateFields) → Contains kept k → Contains kept' k
  pub adds : (c : Candidate) → Contains chosen c → Contains chosen' c
  pub fresh : (k : StateFields) → Contains kept' k → Contains kept k ⊎ Stands chosen' k
  pub among : (c : Candidate) → Contains chosen' c → Contains chosen c ⊎ Contains batch c

-- what putting candidates on their shelves does
pub record Puts (found : List Candidate) (before after : ShelvesFields) : Type 0 where
  pub width : after.width ≡ before.width
  pub count : length after.lists ≡ length before.lists
  pub each : (c : Candidate) → Contains found c → Waits after c.state
  pub keeps : (s : StateFields) → Waits before s → Waits after s
  pub fresh : (place : ℕ) (c : Candidate) → Contains (shelf after place) c →
      Contains (shelf before place) c ⊎ (Contains found c × (place_of before.width c.state ≡ place))

-- kept, or waiting
abbrev pub IsSeen : List StateFields → ShelvesFields → StateFields → Type 0
IsSeen kept shelves s = Contains kept s ⊎ Waits shelves s

-- a completion from one of these states has at least this quality
pub record IsLeft (g : SettingsFields) (among : StateFields → Type 0) (quality : ℕ) : Type 0 where
  pub state : StateFields
  pub is_there : among state
  pub actions : List Action
  pub last : StateFields
  pub ran : run_of g state actions ≡ Some last
  pub complete : is_complete g last ≡ true
  pub enough : quality ≤ counted g last

-- no completion from the state has more quality than the best, and than each completion from these states
abbrev pub IsLeftTo : SettingsFields → (StateFields → Type 0) → Option ℕ → StateFields → Type 0
IsLeftTo g among best s = (m : List Action) (last : StateFields) → run_of g s m ≡ Some last → is_complete g last ≡ true →
    IsAtMost (counted g last) best ⊎ IsLeft g among (counted g last)

-- no completion is lost when a sweep comes to a place: the kept states are expanded, and what lies on the shelves waits
pub record Holds (g : SettingsFields) (allows : StateFields → Type 0) (from : StateFields) (place : ℕ) (kept : List StateFields)
    (shelves : ShelvesFields) (best : Option ℕ) : Type 0 where
  pub start : IsLeftTo g (IsSeen kept shelves) best from
  pub live : (k : StateFields) → Contains kept k → is_over g k ≡ false
  pub each : (k : StateFields) → Contains kept k → IsExpanded g (IsSeen kept shelves) best k
  pub waits : (i : ℕ) → All (IsWaiting g allows from) (shelf shelves i)
  pub placed : (i : ℕ) (c : Candidate) → Contains (shelf shelves i) c → place_of shelves.width c.state ≡ i
  pub done : (i : ℕ) → i < place → shelf shelves i ≡ []
  pub width : 1 ≤ shelves.width
  pub count : length shelves.lists ≡ places_of shelves.width g
