-- Each step keeps what holds.
use Rattle.std.proofs.Common.{false, ◌≡◌, ◌≢◌, inl, inr, ⊎_elim, ℕ, zero, suc, ◌+◌, ◌<◌, ◌≤◌, max, List, [], ◌∷◌, ◌++◌, length, get_or, Option, Some, None, All, slice_index, slice_set, sym, refl, ◌∙◌, subst, arith, length-set, get_or-set_same, get_or-set_other, suc-ne-zero, add-one}
use mathlib.Core.Option.{some, some-injective, some-ne-none}
use mathlib.Core.Logic.{dite}
use native.Mathlib.Decide.{ℕ_discrete, dec_le}
use lib.ListN.{get_elem?, replicate, length-replicate}
use Rattle.std.proofs.lemmas.List.Elements.{All-append, All-push}
use Rattle.atomic_table.proofs.Lists.{at_set, at_snoc}
use Rattle.race_core.specs.declared.entry.Entry.{Entry}
use Rattle.race_core.specs.declared.entry.Entry.TheVariants.{NoList, Best}
use Rattle.race_core.specs.declared.view.View.{View}
use Rattle.race_core.specs.Codes.{code, quality}
use Rattle.race_core.specs.Events.{found, floor_at, loaded, filled, looked, offered, parted, merged, fresh, gone, filling}
use Rattle.race_core.specs.Sound.{IsWordOf, IsMark, IsFloor, StillStands, IsLast, IsFilled, Knows, Sound, Grows}

pub grows-refl : (words : List ℕ) → Grows words words
grows-refl words = record { width = refl; mark = omega arith; entries = λ place h. refl }

pub grows-trans : (a b c : List ℕ) → Grows a b → Grows b c → Grows a c
grows-trans a b c g h = record {
  width = h.width ∙ g.width;
  mark = omega (arith, g.mark, h.mark);
  entries = λ place some_there. h.entries place (λ e. some_there (sym (g.entries place some_there) ∙ e)) ∙ g.entries place some_there;
}

-- a word that stands stays
pub stands-grows : (before after : List ℕ) (place n : ℕ) → Grows before after → StillStands before place n → StillStands after place n
stands-grows before after place n g (inl e) = inl e
stands-grows before after zero n g (inr (inl e)) = inr (inr (refl, omega (arith, g.mark, e)))
stands-grows before after (suc place) n g (inr (inl e)) = dite (ℕ_discrete n 0) inl (λ some_there. inr (inl (e ∙ sym (g.entries place (λ z. some_there (e ∙ z))))))
stands-grows before after place n g (inr (inr h)) = inr (inr (h.0, omega (arith, g.mark, h.1)))

floor-grows : (reached : ℕ → Type 0) (m n : ℕ) (f : Option ℕ) → m ≤ n → IsFloor reached m f → IsFloor reached n f
floor-grows reached m n None le h = tt
floor-grows reached m n (Some q) le h = (h.0, omega arith)

last-grows : (before after : List ℕ) (last : Option (ℕ × ℕ)) → Grows before after → IsLast before last → IsLast after last
last-grows before after None g h = tt
last-grows before after (Some p) g h = stands-grows before after p.0 p.1 g h

seen-grows : (before after : List ℕ) (index : ℕ) → Grows before after → IsFilled before index → IsFilled after index
seen-grows before after index g h e = let k : slice_index before (suc index) ≢ 0 = λ z. h (subst (λ j. slice_index before j ≡ 0) (omega arith) z) in
    let z : slice_index after (suc index) ≡ 0 = subst (λ j. slice_index after j ≡ 0) (omega arith) e in k (sym (g.entries index k) ∙ z)

pub all-seen-grows : (before after : List ℕ) (xs : List ℕ) → Grows before after → All (IsFilled before) xs → All (IsFilled after) xs
all-seen-grows before after xs g h k d lt = seen-grows before after (get_or xs k d) g (h k d lt)

module _ {T : Type 0} (reached : T → ℕ → Type 0) (truth : T) where
  pub knows-grows : (before after : List ℕ) (v : View T) → Grows before after → Knows reached truth before v → Knows reached truth after v
  knows-grows before after v g k = record {
    same = k.same;
    seen = all-seen-grows before after v.seen g k.seen;
    floor = floor-grows (reached truth) _ _ v.floor g.mark k.floor;
    last = last-grows before after v.last g k.last;
  }

-- a word may rise: the mark to a greater one, and an empty word
abbrev pub Rises : ℕ → ℕ → ℕ → Type 0
Rises zero m n = m ≤ n
Rises (suc place) m n = m ≢ 0 → n ≡ m

pub grows-set : (words : List ℕ) (place n : ℕ) → place < length words → Rises place (slice_index words place) n → Grows words (slice_set words place n)
grows-set words zero n lt le = record {
  width = length-set words 0 n;
  mark = omega (arith, get_or-set_same words 0 n 0 lt);
  entries = λ j h. get_or-set_other words 0 (suc j) n 0 (suc-ne-zero j);
}
grows-set words (suc place) n lt rises = record {
  width = length-set words (suc place) n;
  mark = omega (arith, get_or-set_other words (suc place) 0 n 0 (λ e. suc-ne-zero place (sym e)));
  entries = λ j h. dite (ℕ_discrete j place)
      (λ e. subst (λ i. slice_index (slice_set words (suc place) n) (suc i) ≡ slice_index words (suc i)) (sym e)
      (get_or-set_same words (suc place) n 0 lt ∙ rises (subst (λ i. slice_index words (suc i) ≢ 0) e h)))
      (λ ne. get_or-set_other words (suc place) (suc j) n 0 (λ e. ne (omega arith)));
}

module _ {T : Type 0} (size : T → ℕ) (entry : T → ℕ → Entry) (reached : T → ℕ → Type 0) (truth : T) where
  -- what may stand at a place
  abbrev pub MayStand : ℕ → ℕ → Type 0
  MayStand zero n = IsMark (reached truth) n
  MayStand (suc index) n = IsWordOf (entry truth index) n

  pub may-at : (index n : ℕ) → IsWordOf (entry truth index) n → MayStand (index + 1) n
  may-at index n h = subst (λ j. MayStand j n) (sym (add-one index)) h

  module _ (words : List ℕ) (views : List (View T)) (sound : Sound size entry reached truth words views) where
    stood : (place : ℕ) → place < length words → MayStand place (slice_index words place)
    stood zero lt = sound.mark
    stood (suc index) lt = subst (λ j. IsWordOf (entry truth index) (slice_index words j)) (omega arith) (sound.entries index (omega (arith, sound.wide)))

    module _ (place n : ℕ) (inside : place < length words) (rises : Rises place (slice_index words place) n) (may : MayStand place n) where
      abbrev after : List ℕ
      after = slice_set words place n

      grown : Grows words after
      grown = grows-set words place n inside rises

      mark-set : (p : ℕ) → p < length words → MayStand p n → IsMark (reached truth) (slice_index (slice_set words p n) 0)
      mark-set zero lt m = subst (IsMark (reached truth)) (sym (get_or-set_same words 0 n 0 lt)) m
      mark-set (suc p) lt m = subst (IsMark (reached truth)) (sym (get_or-set_other words (suc p) 0 n 0 (λ e. suc-ne-zero p (sym e)))) sound.mark

      entry-set : (p index : ℕ) → p < length words → MayStand p n → index < size truth → IsWordOf (entry truth index) (slice_index (slice_set words p n) (suc index))
      entry-set zero index lt m h = subst (IsWordOf (entry truth index)) (sym (get_or-set_other words 0 (suc index) n 0 (suc-ne-zero index))) (stood (suc index) (omega (arith, sound.wide)))
      entry-set (suc p) index lt m h = dite (ℕ_discrete index p)
          (λ e. subst (λ i. IsWordOf (entry truth i) (slice_index (slice_set words (suc p) n) (suc i))) (sym e) (subst (IsWordOf (entry truth p)) (sym (get_or-set_same words (suc p) n 0 lt)) m))
          (λ ne. subst (IsWordOf (entry truth index)) (sym (get_or-set_other words (suc p) (suc index) n 0 (λ e. ne (omega arith)))) (stood (suc index) (omega (arith, sound.wide))))

      -- a word rises, and one seat has a view that is true of the new words
      pub sound-set : (seat : ℕ) (w : View T) → (w.joined ≡ false → Knows reached truth after w) → Sound size entry reached truth after (slice_set views seat w)
      sound-set seat w knows = record {
        wide = length-set words place n ∙ sound.wide;
        mark = mark-set place inside may;
        entries = λ index lt. subst (λ j. IsWordOf (entry truth index) (slice_index after j)) (omega arith) (entry-set place index inside may lt);
        each = λ j v at live. ⊎_elim (λ e. subst (λ v. v.joined ≡ false → Knows reached truth after v) e.1 knows live) (λ e. knows-grows reached truth words after v grown (sound.each j v e.1 live)) (at_set views seat j w v at);
      }

    -- no word changes, and a new seat comes
    pub sound-new : (w : View T) → (w.joined ≡ false → Knows reached truth words w) → Sound size entry reached truth words (views ++ w ∷ [])
    sound-new w knows = record {
      wide = sound.wide;
      mark = sound.mark;
      entries = sound.entries;
      each = λ j v at live. ⊎_elim (λ e. sound.each j v e live) (λ e. subst (λ v. v.joined ≡ false → Knows reached truth words v) e knows live) (at_snoc views w v j at);
    }

    -- no word changes, and one seat has another view
    pub sound-view : (seat : ℕ) (w : View T) → (w.joined ≡ false → Knows reached truth words w) → Sound size entry reached truth words (slice_set views seat w)
    sound-view seat w knows = record {
      wide = sound.wide;
      mark = sound.mark;
      entries = sound.entries;
      each = λ j v at live. ⊎_elim (λ e. subst (λ v. v.joined ≡ false → Knows reached truth words v) e.1 knows live) (λ e. sound.each j v e.1 live) (at_set views seat j w v at);
    }

found-filled : (words : List ℕ) (index n : ℕ) → n ≡ slice_index words (index + 1) → All (IsFilled words) (found index n)
found-filled words index zero e = λ k d lt. absurd (omega arith)
found-filled words index (suc m) e = All-push (IsFilled words) [] index (λ k d lt. absurd (omega arith)) (λ z. suc-ne-zero m (e ∙ z))

floor-looked : (reached : ℕ → Type 0) (mark : ℕ) (f : Option ℕ) → IsMark reached mark → IsFloor reached mark f → IsFloor reached mark (floor_at mark f)
floor-looked reached zero f m h = h
floor-looked reached (suc q) f m h = (m, omega arith)

floor-quality : (reached : ℕ → Type 0) (mark : ℕ) → IsMark reached mark → IsFloor reached mark (quality mark)
floor-quality reached zero m = tt
floor-quality reached (suc q) m = (m, omega arith)

pub mark-offered : (reached : ℕ → Type 0) (mark q : ℕ) → IsMark reached mark → reached q → IsMark reached (max mark (1 + q))
mark-offered reached mark q m r = dite (dec_le mark q)
    (λ le. let e : suc q ≡ max mark (1 + q) = omega arith in subst (IsMark reached) e r)
    (λ gt. let g : ¬ (mark ≤ q) = gt in let e : mark ≡ max mark (1 + q) = omega arith in subst (IsMark reached) e m)

pub filling-filled : (n m : ℕ) → n ≢ 0 → filling n m ≢ 0
filling-filled n zero h = h
filling-filled n (suc m) h = suc-ne-zero m

pub code-filled : (e : Entry) → code e ≢ 0
code-filled NoList h = omega arith
code-filled (Best v) h = omega arith

pub filling-rises : (n m : ℕ) → m ≢ 0 → filling n m ≡ m
filling-rises n zero h = absurd (h refl)
filling-rises n (suc m) h = refl

pub rises-refl : (place n : ℕ) → Rises place n n
rises-refl zero n = omega arith
rises-refl (suc place) n = λ h. refl

pub rises-at : (index m n : ℕ) → (m ≢ 0 → n ≡ m) → Rises (index + 1) m n
rises-at index m n h = subst (λ j. Rises j m n) (sym (add-one index)) h

pub filling-may : (e : Entry) (m : ℕ) → IsWordOf e m → IsWordOf e (filling (code e) m)
filling-may e zero h = inr refl
filling-may e (suc m) h = h

module _ {T : Type 0} (size : T → ℕ) (entry : T → ℕ → Entry) (reached : T → ℕ → Type 0) (truth : T) (words : List ℕ) (views : List (View T)) (sound : Sound size entry reached truth words views) where
  -- the word that a step found
  was-there : (after : List ℕ) (place : ℕ) → Grows words after → StillStands after place (slice_index words place)
  was-there after place g = stands-grows words after place (slice_index words place) g (inr (inl refl))

  pub knows-loaded : (v : View T) (index : ℕ) → Knows reached truth words v → Knows reached truth words (loaded index (slice_index words (index + 1)) v)
  knows-loaded v index k = record {
    same = k.same;
    seen = All-append (IsFilled words) v.seen (found index (slice_index words (index + 1))) k.seen (found-filled words index _ refl);
    floor = k.floor;
    last = was-there words (index + 1) (grows-refl words);
  }

  pub knows-looked : (v : View T) → Knows reached truth words v → Knows reached truth words (looked (slice_index words 0) v)
  knows-looked v k = record {
    same = k.same;
    seen = k.seen;
    floor = floor-looked (reached truth) (slice_index words 0) v.floor sound.mark k.floor;
    last = was-there words 0 (grows-refl words);
  }

  pub knows-parted : (v : View T) → Knows reached truth words v → Knows reached truth words (parted (slice_index words 0) v)
  knows-parted v k = record {
    same = k.same;
    seen = k.seen;
    floor = floor-quality (reached truth) (slice_index words 0) sound.mark;
    last = was-there words 0 (grows-refl words);
  }

  pub knows-merged : (v w : View T) → Knows reached truth words v → Knows reached truth words w → Knows reached truth words (merged (slice_index words 0) v w)
  knows-merged v w k l = record {
    same = k.same;
    seen = All-append (IsFilled words) v.seen w.seen k.seen l.seen;
    floor = floor-quality (reached truth) (slice_index words 0) sound.mark;
    last = was-there words 0 (grows-refl words);
  }

  module _ (index : ℕ) (inside : index < size truth) where
    abbrev filled_words : List ℕ
    filled_words = slice_set words (index + 1) (filling (code (entry truth index)) (slice_index words (index + 1)))

    pub filled-grows : Grows words filled_words
    filled-grows = grows-set words (index + 1) _ (omega (arith, sound.wide)) (rises-at index _ _ (filling-rises _ _))

    pub knows-filled : (v : View T) → Knows reached truth words v → Knows reached truth filled_words (filled index (slice_index words (index + 1)) v)
    knows-filled v k = record {
      same = k.same;
      seen = All-append (IsFilled filled_words) v.seen (index ∷ []) (all-seen-grows words filled_words v.seen filled-grows k.seen)
          (All-push (IsFilled filled_words) [] index (λ k d lt. absurd (omega arith))
          (λ z. filling-filled (code (entry truth index)) (slice_index words (index + 1)) (code-filled (entry truth index)) (sym (get_or-set_same words (index + 1) _ 0 (omega (arith, sound.wide))) ∙ z)));
      floor = floor-grows (reached truth) _ _ v.floor filled-grows.mark k.floor;
      last = was-there filled_words (index + 1) filled-grows;
    }

    pub sound-filled : (seat : ℕ) (v : View T) → Knows reached truth words v → Sound size entry reached truth filled_words (slice_set views seat (filled index (slice_index words (index + 1)) v))
    sound-filled seat v k = sound-set size entry reached truth words views sound (index + 1) _ (omega (arith, sound.wide)) (rises-at index _ _ (filling-rises _ _)) (may-at size entry reached truth index _ (filling-may _ _ (sound.entries index inside))) seat _ (λ _. knows-filled v k)

  module _ (q : ℕ) (is_reached : reached truth q) where
    abbrev offered_words : List ℕ
    offered_words = slice_set words 0 (max (slice_index words 0) (1 + q))

    pub offered-grows : Grows words offered_words
    offered-grows = grows-set words 0 _ (omega (arith, sound.wide)) (omega arith)

    pub knows-offered : (v : View T) → Knows reached truth words v → Knows reached truth offered_words (offered (1 + q) (slice_index words 0) v)
    knows-offered v k = let mark : ℕ = max (slice_index words 0) (1 + q) in let m = mark-offered (reached truth) (slice_index words 0) q sound.mark is_reached in record {
      same = k.same;
      seen = all-seen-grows words offered_words v.seen offered-grows k.seen;
      floor = subst (λ n. IsFloor (reached truth) n (quality mark)) (sym (get_or-set_same words 0 mark 0 (omega (arith, sound.wide)))) (floor-quality (reached truth) mark m);
      last = was-there offered_words 0 offered-grows;
    }

    pub sound-offered : (seat : ℕ) (v : View T) → Knows reached truth words v → Sound size entry reached truth offered_words (slice_set views seat (offered (1 + q) (slice_index words 0) v))
    sound-offered seat v k = sound-set size entry reached truth words views sound 0 _ (omega (arith, sound.wide)) (omega arith) (mark-offered (reached truth) (slice_index words 0) q sound.mark is_reached) seat _ (λ _. knows-offered v k)

-- a list of one
pub only-one : {A : Type 0} (a b : A) (i : ℕ) → get_elem? (a ∷ []) i ≡ some b → a ≡ b
only-one a b zero e = some-injective a b e
only-one a b (suc i) e = absurd (some-ne-none b (sym e))

-- a new core
pub zeros : (n i : ℕ) → slice_index (replicate n 0) i ≡ 0
zeros zero i = refl
zeros (suc n) zero = refl
zeros (suc n) (suc i) = zeros n i

module _ {T : Type 0} (size : T → ℕ) (entry : T → ℕ → Entry) (reached : T → ℕ → Type 0) (truth : T) where
  knows-fresh : (words : List ℕ) → Knows reached truth words (fresh truth)
  knows-fresh words = record { same = refl; seen = λ k d lt. absurd (omega arith); floor = tt; last = tt }

  -- nothing is said of a seat that was joined away
  pub knows-gone : (words : List ℕ) → (gone {T = T}).joined ≡ false → Knows reached truth words (gone {T = T})
  knows-gone words e = cc

  pub sound-fresh : Sound size entry reached truth (replicate (size truth + 1) 0) (fresh truth ∷ [])
  sound-fresh = record {
    wide = length-replicate (size truth + 1) 0;
    mark = subst (IsMark (reached truth)) (sym (zeros (size truth + 1) 0)) tt;
    entries = λ index lt. inl (zeros (size truth + 1) (index + 1));
    each = λ seat v at _. subst (Knows reached truth (replicate (size truth + 1) 0)) (only-one (fresh truth) v seat at) (knows-fresh (replicate (size truth + 1) 0));
  }
