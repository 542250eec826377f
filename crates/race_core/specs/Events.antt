-- What each event does to one word, and to the view of its seat.
-- The mark stands at place 0, and the word of an index at the place after it.
use Rattle.std.specs.Prelude.{◌≡◌, ℕ, zero, suc, ◌+◌, ◌<◌, max, Bool, true, false, cond, List, [], ◌∷◌, ◌++◌, Option, Some, None, nat_lt, nat_eq, slice_index, slice_set, replicate}
use Rattle.race_core.specs.declared.entry.Entry.{Entry}
use Rattle.race_core.specs.declared.event.Event.{Event}
use Rattle.race_core.specs.declared.event.Event.TheVariants.{Load, Put, See, Offer, Split, Join}
use Rattle.race_core.specs.declared.view.View.{View}
use Rattle.race_core.specs.Codes.{code, quality}

-- what a load of an index adds to the seen ones, where it found this word
abbrev pub found : ℕ → ℕ → List ℕ
found index zero = []
found index (suc n) = index ∷ []

-- the floor after a load of the mark
abbrev pub floor_at : ℕ → Option ℕ → Option ℕ
floor_at zero floor = floor
floor_at (suc q) floor = Some q

module _ {T : Type 0} where
  -- a step at a place, where this word was found
  abbrev pub noted : ℕ → ℕ → View T → View T
  noted place word v = record v { steps = v.steps + 1; last = Some (place, word) }

  abbrev pub with_seen : List ℕ → View T → View T
  with_seen more v = record v { seen = v.seen ++ more }

  abbrev pub with_floor : Option ℕ → View T → View T
  with_floor floor v = record v { floor = floor }

  -- the index is seen where the word is not empty
  abbrev pub loaded : ℕ → ℕ → View T → View T
  loaded index word v = noted (index + 1) word (with_seen (found index word) v)

  -- the index is seen
  abbrev pub filled : ℕ → ℕ → View T → View T
  filled index word v = noted (index + 1) word (with_seen (index ∷ []) v)

  -- the floor is the mark's quality where there is one
  abbrev pub looked : ℕ → View T → View T
  looked word v = noted 0 word (with_floor (floor_at word v.floor) v)

  -- n, which is 1 and the quality offered, raises the mark; the floor is its quality
  abbrev pub offered : ℕ → ℕ → View T → View T
  offered n word v = noted 0 word (with_floor (quality (max word n)) v)

  -- a seat that is split; the new one is the same
  abbrev pub parted : ℕ → View T → View T
  parted word v = noted 0 word (with_floor (quality word) v)

  -- a seat that takes in the seat of w
  abbrev pub merged : ℕ → View T → View T → View T
  merged word v w = noted 0 word (with_floor (quality word) (with_seen w.seen v))

  -- the first seat
  abbrev pub fresh : T → View T
  fresh t = record { truth = Some t; seen = []; floor = None; joined = false; steps = 0; last = None }

  -- a seat that was joined away
  abbrev pub gone : View T
  gone = record { truth = None; seen = []; floor = None; joined = true; steps = 0; last = None }

-- what is seen of a core
pub record CoreFields (T : Type 0) : Type 0 where
  pub truth : T
  pub words : List ℕ
  pub views : List (View T)

-- a core at its start
abbrev pub started : {T : Type 0} → (T → ℕ) → T → CoreFields T
started size t = record { truth = t; words = replicate (size t + 1) 0; views = fresh t ∷ [] }

-- an empty word becomes the code
abbrev pub filling : ℕ → ℕ → ℕ
filling n zero = n
filling n (suc m) = suc m

module _ {T : Type 0} where
  -- a seat that is there, and was not joined away
  abbrev pub live_or_none : Bool → View T → Option (View T)
  live_or_none true v = None
  live_or_none false v = Some v

  abbrev pub live_at : List (View T) → ℕ → Option (View T)
  live_at [] seat = None
  live_at (v ∷ vs) zero = live_or_none v.joined v
  live_at (v ∷ vs) (suc seat) = live_at vs seat

  -- f of the seat, where it is live; else c stays
  abbrev pub at_live : Option (View T) → (View T → CoreFields T) → CoreFields T → CoreFields T
  at_live None f c = c
  at_live (Some v) f c = f v

  abbrev pub word : CoreFields T → ℕ → ℕ
  word c place = slice_index c.words place

  abbrev pub set_word : ℕ → ℕ → CoreFields T → CoreFields T
  set_word place n c = record c { words = slice_set c.words place n }

  abbrev pub set_view : ℕ → View T → CoreFields T → CoreFields T
  set_view seat v c = record c { views = slice_set c.views seat v }

  abbrev pub new_view : View T → CoreFields T → CoreFields T
  new_view v c = record c { views = c.views ++ v ∷ [] }

  -- after one event
  abbrev pub after : (T → ℕ) → CoreFields T → Event → CoreFields T
  after size c (Load seat index) = at_live (live_at c.views seat) (λ v. cond (nat_lt index (size c.truth))
      (set_view seat (loaded index (word c (index + 1)) v) c) c) c
  after size c (Put seat index entry) = at_live (live_at c.views seat) (λ v. cond (nat_lt index (size c.truth))
      (set_view seat (filled index (word c (index + 1)) v) (set_word (index + 1) (filling (code entry) (word c (index + 1))) c)) c) c
  after size c (See seat) = at_live (live_at c.views seat) (λ v. set_view seat (looked (word c 0) v) c) c
  after size c (Offer seat q) = at_live (live_at c.views seat) (λ v.
      set_view seat (offered (1 + q) (word c 0) v) (set_word 0 (max (word c 0) (1 + q)) c)) c
  after size c (Split seat) = at_live (live_at c.views seat) (λ v.
      new_view (parted (word c 0) v) (set_view seat (parted (word c 0) v) c)) c
  after size c (Join into from) = at_live (live_at c.views into) (λ v. at_live (live_at c.views from) (λ w. cond (nat_eq into from) c
      (set_view from gone (set_view into (merged (word c 0) v w) c))) c) c

  -- after a list of events
  abbrev pub after_all : (T → ℕ) → CoreFields T → List Event → CoreFields T
  after_all size c [] = c
  after_all size c (e ∷ es) = after_all size (after size c e) es

  -- a put of an index has the truth's entry, and an offer's quality is reached
  abbrev pub IsLawful : (T → ℕ) → (T → ℕ → Entry) → (T → ℕ → Type 0) → T → Event → Type 0
  IsLawful size entry reached t (Put seat index e) = index < size t → e ≡ entry t index
  IsLawful size entry reached t (Offer seat q) = reached t q
  IsLawful size entry reached t _ = Unit {0}

  abbrev pub AreLawful : (T → ℕ) → (T → ℕ → Entry) → (T → ℕ → Type 0) → T → List Event → Type 0
  AreLawful size entry reached t [] = Unit {0}
  AreLawful size entry reached t (e ∷ es) = IsLawful size entry reached t e × AreLawful size entry reached t es
