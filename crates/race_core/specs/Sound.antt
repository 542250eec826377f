-- What holds after each event.
use Rattle.std.specs.Prelude.{◌≡◌, ◌≢◌, ◌⊎◌, ℕ, zero, suc, ◌+◌, ◌<◌, ◌≤◌, false, List, [], ◌∷◌, length, Option, Some, None, All, slice_index}
use mathlib.Core.Option.{some}
use lib.ListN.{get_elem?}
use Rattle.race_core.specs.declared.entry.Entry.{Entry}
use Rattle.race_core.specs.declared.view.View.{View}
use Rattle.race_core.specs.declared.event.Event.{Event}
use Rattle.race_core.specs.Codes.{code}
use Rattle.race_core.specs.Events.{CoreFields, after}

-- empty, or the code of the entry
abbrev pub IsWordOf : Entry → ℕ → Type 0
IsWordOf e n = (n ≡ 0) ⊎ (n ≡ code e)

-- 0, or 1 and a reached quality
abbrev pub IsMark : (ℕ → Type 0) → ℕ → Type 0
IsMark reached zero = Unit {0}
IsMark reached (suc q) = reached q

-- none, or a reached quality with 1 + q at most the mark
abbrev pub IsFloor : (ℕ → Type 0) → ℕ → Option ℕ → Type 0
IsFloor reached mark None = Unit {0}
IsFloor reached mark (Some q) = reached q × (q < mark)

-- a word that was found at a place is 0, or stands there still, or is at most the mark
abbrev pub StillStands : List ℕ → ℕ → ℕ → Type 0
StillStands words place n = (n ≡ 0) ⊎ ((n ≡ slice_index words place) ⊎ ((place ≡ 0) × (n ≤ slice_index words 0)))

abbrev pub IsLast : List ℕ → Option (ℕ × ℕ) → Type 0
IsLast words None = Unit {0}
IsLast words (Some p) = StillStands words p.0 p.1

-- the word of an index is not 0
abbrev pub IsFilled : List ℕ → ℕ → Type 0
IsFilled words index = slice_index words (index + 1) ≢ 0

-- what is true of the view of a seat that was not joined away
pub record Knows {T : Type 0} (reached : T → ℕ → Type 0) (truth : T) (words : List ℕ) (v : View T) : Type 0 where
  pub same : v.truth ≡ Some truth
  pub seen : All (IsFilled words) v.seen
  pub floor : IsFloor (reached truth) (slice_index words 0) v.floor
  pub last : IsLast words v.last

-- the words say what the truth says, and each seat knows what is true of them
pub record Sound {T : Type 0} (size : T → ℕ) (entry : T → ℕ → Entry) (reached : T → ℕ → Type 0)
    (truth : T) (words : List ℕ) (views : List (View T)) : Type 0 where
  pub wide : length words ≡ size truth + 1
  pub mark : IsMark (reached truth) (slice_index words 0)
  pub entries : (index : ℕ) → index < size truth → IsWordOf (entry truth index) (slice_index words (index + 1))
  pub each : (seat : ℕ) (v : View T) → get_elem? views seat ≡ some v → v.joined ≡ false → Knows reached truth words v

-- no word of an index that is not 0 changes, and the mark never falls
pub record Grows (before after : List ℕ) : Type 0 where
  pub width : length after ≡ length before
  pub mark : slice_index before 0 ≤ slice_index after 0
  pub entries : (place : ℕ) → slice_index before (suc place) ≢ 0 → slice_index after (suc place) ≡ slice_index before (suc place)

module _ {T : Type 0} (size : T → ℕ) (entry : T → ℕ → Entry) (reached : T → ℕ → Type 0) where
  abbrev pub IsSound : CoreFields T → Type 0
  IsSound c = Sound size entry reached c.truth c.words c.views

  -- the truth stays, the words are sound, and none is lost
  pub record Steady (before after : CoreFields T) : Type 0 where
    pub truth : after.truth ≡ before.truth
    pub sound : Sound size entry reached after.truth after.words after.views
    pub grown : Grows before.words after.words

  -- the same along a list of events: before it, and by each event in its turn
  abbrev pub SteadyAlong : CoreFields T → List Event → Type 0
  SteadyAlong c [] = IsSound c
  SteadyAlong c (e ∷ es) = IsSound c × Steady c (after size c e) × SteadyAlong (after size c e) es
