-- What each step tells its caller: the view after it, and what the rule says of the word that it found.
use Rattle.std.specs.Prelude.{◌≡◌, ◌≢◌, ℕ, ◌+◌, max, Option, Some, None, Contains}
use Rattle.atomic_table.specs.Table.{Me, Step}
use Rattle.race_core.specs.declared.entry.Entry.{Entry}
use Rattle.race_core.specs.declared.view.View.{View}
use Rattle.race_core.specs.Events.{loaded, filled, looked, offered, parted, with_seen, with_floor}
use Rattle.race_core.specs.Sound.{IsWordOf, IsMark, IsFloor}

-- the greater of two floors
abbrev pub floor_max : Option ℕ → Option ℕ → Option ℕ
floor_max None g = g
floor_max (Some p) None = Some p
floor_max (Some p) (Some q) = Some (max p q)

module _ {T : Type 0} where
  -- a step tells of the view before it, the number found, and the view after it; the seat holds no slot
  abbrev pub Told : (Step (Unit {0}) → View T → ℕ → View T → Type 0) → Step (Unit {0}) → Me (Unit {0}) (View T) → ℕ →
      Me (Unit {0}) (View T) → Type 0
  Told tells st m n m' = (m'.1 ≡ m.1) × tells st m.0 n m'.0

  -- the word is empty or says the truth's entry, and it is not empty where the index was seen
  abbrev pub loads : (T → ℕ → Entry) → Step (Unit {0}) → Me (Unit {0}) (View T) → ℕ → Me (Unit {0}) (View T) → Type 0
  loads entry = Told (λ st v n w. (index : ℕ) → st.word ≡ index + 1
      → (w ≡ loaded index n v) × ((t : T) → v.truth ≡ Some t → IsWordOf (entry t index) n) × (Contains v.seen index → n ≢ 0))

  abbrev pub puts : Step (Unit {0}) → Me (Unit {0}) (View T) → ℕ → Me (Unit {0}) (View T) → Type 0
  puts = Told (λ st v n w. (index : ℕ) → st.word ≡ index + 1 → w ≡ filled index n v)

  -- the mark is one that is reached, and not below the floor
  abbrev pub looks : (T → ℕ → Type 0) → Step (Unit {0}) → Me (Unit {0}) (View T) → ℕ → Me (Unit {0}) (View T) → Type 0
  looks reached = Told (λ st v n w. (w ≡ looked n v) × ((t : T) → v.truth ≡ Some t → IsMark (reached t) n × IsFloor (reached t) n v.floor))

  abbrev pub offers : (T → ℕ → Type 0) → Step (Unit {0}) → Me (Unit {0}) (View T) → ℕ → Me (Unit {0}) (View T) → Type 0
  offers reached = Told (λ st v n w. (w ≡ offered st.first n v) ×
      ((t : T) → v.truth ≡ Some t → IsMark (reached t) (max n st.first) × IsFloor (reached t) n v.floor))

  -- a look at the mark as a seat is split or takes another in
  abbrev pub parts : (T → ℕ → Type 0) → Step (Unit {0}) → Me (Unit {0}) (View T) → ℕ → Me (Unit {0}) (View T) → Type 0
  parts reached = Told (λ st v n w. (w ≡ parted n v) × ((t : T) → v.truth ≡ Some t → IsMark (reached t) n × IsFloor (reached t) n v.floor))

  -- what two seats have seen, and the greater floor
  abbrev pub taken_in : View T → View T → View T
  taken_in v w = with_floor (floor_max v.floor w.floor) (with_seen w.seen v)
