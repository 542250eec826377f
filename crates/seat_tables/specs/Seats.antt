-- What is seen of a table and of a seat, and what a call does.
use Rattle.std.specs.Prelude.{◌≡◌, ℕ, ◌+◌, ◌≤◌, false, List, Option, Some, None, Contains}
use mathlib.Core.Option.{some}
use lib.ListN.{get_elem?}
use Rattle.atomic_table.specs.Seated.{TableId}
use Rattle.race_core.specs.declared.entry.Entry.{Entry}
use Rattle.race_core.specs.declared.view.View.{View}
use Rattle.race_core.specs.Sound.{Sound}

pub record SharedFields (T : Type 0) : Type 0 where
  pub truth : T
  pub id : TableId

pub record SeatFields (T : Type 0) : Type 0 where
  pub id : TableId
  pub view : View T

-- a seat of this table: it holds the table's truth, and was not joined away
abbrev pub IsOf : {T : Type 0} → SharedFields T → SeatFields T → Type 0
IsOf table seat = (seat.id ≡ table.id) × (seat.view.truth ≡ Some table.truth) × (seat.view.joined ≡ false)

-- one step at a place: with the word found there the event happens to the view, one more step is counted, and the
-- place and the word are noted
pub record OneStep {T : Type 0} (place : ℕ) (event : ℕ → View T → View T) (before after : View T) : Type 0 where
  pub found : ℕ
  pub happened : after ≡ event found before
  pub counted : after.steps ≡ before.steps + 1
  pub noted : after.last ≡ Some (place, found)

-- no floor is below every quality
abbrev pub AtLeast : Option ℕ → Option ℕ → Type 0
AtLeast f None = Unit {0}
AtLeast None (Some p) = ⊥
AtLeast (Some q) (Some p) = p ≤ q

-- what a seat has seen stays seen
pub record StillSees {T : Type 0} (before after : View T) : Type 0 where
  pub seen : (index : ℕ) → Contains before.seen index → Contains after.seen index

-- what holds of all words that are sound with this view, whatever the other views are
abbrev pub WithAllSound : {T : Type 0} → (T → ℕ) → (T → ℕ → Entry) → (T → ℕ → Type 0) → T → View T → (List ℕ → Type 0) → Type 0
WithAllSound {T} size entry reached truth v holds =
    (words : List ℕ) (views : List (View T)) (place : ℕ) → get_elem? views place ≡ some v → Sound size entry reached truth words views →
    holds words
