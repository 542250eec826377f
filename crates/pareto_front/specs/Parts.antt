-- The nodes of a level in parts, so that nodes with equal progress and effects are in one part, and what is kept of a part.
use Rattle.std.specs.Prelude.{ℕ, Bool, true, false, not, List, [], ◌∷◌, ◌++◌, ◌⊎◌, ◌≡◌, ◌*◌, ◌/◌, ◌%◌, ◌^◌, ◌<◌, ◌≤◌, ◌&&◌, ◌||◌, ◌==◌, nat_lt, ◌+◌, length, map, filter, slice_index_or, Contains, Vec}
use Rattle.std.specs.List.{list_any, enumerate_from, flat_map}
use Rattle.craft_state.specs.Craft.{AreEffects}
use Rattle.pareto_front.specs.declared.node.Node.{Node}
use Rattle.pareto_front.specs.declared.parts.Entry.{Entry}
use Rattle.pareto_front.specs.Columns.{Numbers, numbers_of, are_no_less, NoneEnough, IsFirstEnough}
use Rattle.pareto_front.specs.Keys.{key_of}
use Rattle.pareto_front.specs.Lists.{items_of}
use Rattle.pareto_front.specs.Pieces.{Stands}
use Rattle.pareto_front.specs.declared.piece.Piece.{Piece}

-- the part of a key, of so many parts: the bits in the middle of a product
unfoldable pub part_of : ℕ → ℕ → ℕ
part_of key count = key * 0x9E37_79B9_7F4A_7C15 % 2 ^ 64 / 2 ^ 32 % count

-- what a node is compared by, and its place
abbrev pub entry_of : ℕ → Node → Entry
entry_of place n = record {
  key = key_of n.state;
  place = place;
  seconds = n.seconds;
  numbers = numbers_of n.state;
}

-- the keys are equal, no number of the first is less, and it has fewer seconds, or as many and the earlier place
unfoldable pub outdoes : Entry → Entry → Bool
outdoes a b = a.key == b.key && are_no_less a.numbers b.numbers
    && (nat_lt a.seconds b.seconds || (a.seconds == b.seconds && nat_lt a.place b.place))

-- no entry of the part outdoes this one
abbrev pub survives : List Entry → Entry → Bool
survives part e = not (list_any (λ o. outdoes o e) part)

-- the places of the entries that survive
pub record Keeps (part : List Entry) (places : List ℕ) : Type 0 where
  pub sound : (place : ℕ) → Contains places place → (e : Entry) × Contains part e × (survives part e ≡ true) × (e.place ≡ place)
  pub whole : (e : Entry) → Contains part e → survives part e ≡ true → Contains places e.place

-- by key, then seconds, then place
abbrev pub is_before : Entry → Entry → Bool
is_before a b = nat_lt a.key b.key || (a.key == b.key && (nat_lt a.seconds b.seconds || (a.seconds == b.seconds && nat_lt a.place b.place)))

-- no entry stands before one that comes before it
pub record AreSorted (entries : List Entry) : Type 0 where
  pub sorted : (i j : ℕ) (d : Entry) → i ≤ j → j < length entries →
      is_before (slice_index_or entries j d) (slice_index_or entries i d) ≡ false

abbrev pub asks_of : Entry → List ℕ
asks_of e = e.numbers.cp ∷ e.numbers.durability ∷ e.numbers.quality ∷ []

-- the place is added, unless the numbers of a kept entry are enough for it
abbrev pub Tries : Entry → List Numbers → List ℕ → List Numbers → List ℕ → Type 0
Tries e rows places rows' places' =
    (NoneEnough (asks_of e) rows (length rows) × (rows' ≡ rows ++ e.numbers ∷ []) × (places' ≡ places ++ e.place ∷ []))
    ⊎ ((p : ℕ) × IsFirstEnough (asks_of e) rows p × (rows' ≡ rows) × (places' ≡ places))

-- the entry is that of the node at its place, which is below a count
pub record IsEntry (level : List Node) (count : ℕ) (e : Entry) : Type 0 where
  pub node : Node
  pub below : e.place < count
  pub at : node ≡ slice_index_or level e.place node
  pub is : e ≡ entry_of e.place node

-- each node from one place on and below another has its entry in the part of its key, and the parts have no others
pub record AreParts (level : List Node) (from to : ℕ) (parts : List (List Entry)) : Type 0 where
  pub effects : (j : ℕ) (n : Node) → from ≤ j → j < to → n ≡ slice_index_or level j n → AreEffects n.state.effects
  pub entries : (g : ℕ) (e : Entry) → Contains (slice_index_or parts g []) e → IsEntry level to e × (g ≡ part_of e.key (length parts))
  pub whole : (j : ℕ) (n : Node) → from ≤ j → j < to → n ≡ slice_index_or level j n →
      Contains (slice_index_or parts (part_of (key_of n.state) (length parts)) []) (entry_of j n)

-- how many parts a level of so many nodes has
abbrev pub part_count : ℕ → ℕ
part_count len = len / 16384 + 1

-- the entries of a piece of a level in so many parts, wherever it stands
pub record IsRun (count : ℕ) (piece : Piece) (parts : List (List Entry)) : Type 0 where
  pub many : length parts ≡ count
  pub are : (level : List Node) → Stands level piece → AreParts level piece.start (piece.start + length piece.nodes.now) parts

-- a part of the level: what the runs have of it, one after another
abbrev pub joined : List (List (List Entry)) → ℕ → List Entry
joined runs g = flat_map (λ parts. slice_index_or parts g []) runs

abbrev pub runs_of : {A : Type 0} → List (Vec (Vec Entry A) A) → List (List (List Entry))
runs_of runs = map (λ run. items_of run.items) runs

abbrev pub has_place : ℕ → List ℕ → Bool
has_place j places = list_any (λ p. p == j) places

-- the marks are set besides at the places
pub record AreMarked (places : List ℕ) (before after : List Bool) : Type 0 where
  pub as_many : length after ≡ length before
  pub set : (j : ℕ) (d : Bool) → j < length before → slice_index_or after j d ≡ (slice_index_or before j d || has_place j places)

-- the marks are set at the places of some list
pub record AreMarks (count : ℕ) (kept : List (List ℕ)) (marks : List Bool) : Type 0 where
  pub as_many : length marks ≡ count
  pub set : (j : ℕ) (d : Bool) → j < count → slice_index_or marks j d ≡ list_any (has_place j) kept

-- the elements whose marks are set, in order, where the first stands at a place
abbrev pub marked_from : {X : Type 0} → ℕ → List Bool → List X → List X
marked_from place marks xs = map (λ p. p.1) (filter (λ p. slice_index_or marks p.0 false) (enumerate_from place xs))

abbrev pub marked_of : {X : Type 0} → List Bool → List X → List X
marked_of marks xs = marked_from 0 marks xs
