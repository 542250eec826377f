-- Each step on the table keeps the rule.
use Rattle.std.proofs.Common.{◌↔◌, suc-ne-zero, false, ◌≡◌, ◌≢◌, inl, inr, ⊎_elim, ℕ, zero, suc, ◌+◌, ◌<◌, ◌≤◌, ◌^◌, max, List, [], ◌∷◌, ◌++◌, length, eqb, Option, Some, None, MatchOption, IsSome, IfSome, Contains, slice_index, slice_set, sym, refl, ap, ◌∙◌, subst, arith, length-append}
use mathlib.Core.Option.{none, some, some-injective, some-ne-none}
use lib.ListN.{get_elem?}
use prog.Atomic.{either}
use Rattle.std.proofs.Math.Seq.{get_or-append_seam}
use Rattle.std.proofs.lemmas.List.Elements.{All-contains, All-append}
use Rattle.atomic_table.specs.Table.{State, Me, step, keeps, Allows, Splits, Joins}
use Rattle.atomic_table.proofs.Lists.{exchanged, at_set}
use Rattle.race_core.specs.declared.entry.Entry.{Entry}
use Rattle.race_core.specs.declared.entry.Entry.TheVariants.{NoList, Best}
use Rattle.race_core.specs.declared.view.View.{View}
use Rattle.race_core.specs.Codes.{code, quality, Fits32}
use Rattle.race_core.specs.Events.{loaded, filled, looked, offered, parted, gone, filling, floor_at, found}
use Rattle.race_core.specs.Sound.{IsWordOf, IsMark, IsFloor, IsFilled, Knows, Sound}
use Rattle.race_core.proofs.Steps.{grows-set, may-at, sound-set, sound-filled, knows-grows, knows-loaded, filling-rises, code-filled, rises-refl, MayStand, knows-looked, knows-parted, sound-offered, mark-offered, sound-new, sound-view, knows-gone, only-one}
use Rattle.seat_tables.specs.Plays.{loads, puts, looks, offers, parts, taken_in, floor_max}
use Rattle.seat_tables.specs.Seats.{AtLeast, WithAllSound}
use mathlib.Core.Logic.{dite}
use native.Mathlib.Decide.{dec_le}

-- an exchange of 0 for a code
exchange_fills : (new n : ℕ) → either (eqb n 0) new n ≡ filling new n
exchange_fills new n = exchanged n 0 new (λ m. m ≡ filling new n) (λ e. sym (ap (filling new) e)) (λ ne. sym (filling-rises new n ne))

-- what a word of a fitting entry is below
pub word-fits : (e : Entry) (n : ℕ) → Fits32 e → IsWordOf e n → n < 4294967298
word-fits e n fits (inl z) = omega (arith, z)
word-fits NoList n fits (inr z) = omega (arith, z)
word-fits (Best v) n fits (inr z) = omega (arith, z, fits)

-- a word that is not 0 is an answer
pub answered : (o : Option Entry) (n : ℕ) → MatchOption o (n ≡ 0) (λ e. n ≡ code e) → n ≢ 0 → IsSome o
answered None n h some_there = absurd (some_there h)
answered (Some e) n h some_there = refl

code-same : (e f : Entry) → code e ≡ code f → e ≡ f
code-same NoList NoList h = refl
code-same NoList (Best v) h = absurd (omega (arith, h))
code-same (Best v) NoList h = absurd (omega (arith, h))
code-same (Best v) (Best w) h = let e : v ≡ w = omega (arith, h) in ap Best e

pub entry-is : (e : Entry) (o : Option Entry) (n : ℕ) → MatchOption o (n ≡ 0) (λ x. n ≡ code x) → IsWordOf e n → IfSome o (λ x. x ≡ e)
entry-is e None n h w = tt
entry-is e (Some x) n h (inl z) = absurd (code-filled x (sym h ∙ z))
entry-is e (Some x) n h (inr z) = code-same x e (sym h ∙ z)

-- the word that a last step found
abbrev found_word : Option (ℕ × ℕ) → ℕ
found_word None = 0
found_word (Some p) = p.1

pub empty-word : (o : Option Entry) (place n : ℕ) (last : Option (ℕ × ℕ)) → MatchOption o (n ≡ 0) (λ x. n ≡ code x) → last ≡ Some (place, n) → (o ≡ None) ↔ (last ≡ Some (place, 0))
empty-word None place n last h is = ((λ _. is ∙ ap (λ m. Some (place, m)) h), (λ _. refl))
empty-word (Some x) place n last h is = ((λ e. cc), (λ z. absurd (code-filled x (sym h ∙ ap found_word (sym is ∙ z)))))

pub word-is : (o : Option Entry) (place n : ℕ) (last : Option (ℕ × ℕ)) → MatchOption o (n ≡ 0) (λ x. n ≡ code x) → last ≡ Some (place, n) → IfSome o (λ x. last ≡ Some (place, code x))
word-is None place n last h is = tt
word-is (Some x) place n last h is = is ∙ ap (λ m. Some (place, m)) h

pub empty-mark : (n : ℕ) (o : Option ℕ) (last : Option (ℕ × ℕ)) → o ≡ quality n → last ≡ Some (0, n) → (o ≡ None) ↔ (last ≡ Some (0, 0))
empty-mark zero o last h is = ((λ _. is), (λ _. h))
empty-mark (suc q) o last h is = let some_there : o ≡ Some q = h in ((λ e. cc), (λ z. absurd (suc-ne-zero q (ap found_word (sym is ∙ z)))))

mark-of : (n : ℕ) (last : Option (ℕ × ℕ)) → last ≡ Some (0, n) → IfSome (quality n) (λ q. last ≡ Some (0, 1 + q))
mark-of zero last is = tt
mark-of (suc q) last is = let same : suc q ≡ 1 + q = omega arith in is ∙ ap (λ m. Some (0, m)) same

pub mark-is : (n : ℕ) (o : Option ℕ) (last : Option (ℕ × ℕ)) → o ≡ quality n → last ≡ Some (0, n) → IfSome o (λ q. last ≡ Some (0, 1 + q))
mark-is n o last h is = subst (λ x. IfSome x (λ q. last ≡ Some (0, 1 + q))) (sym h) (mark-of n last is)

floor-max : (reached : ℕ → Type 0) (mark : ℕ) (f g : Option ℕ) → IsFloor reached mark f → IsFloor reached mark g → IsFloor reached mark (floor_max f g)
floor-max reached mark None g h k = k
floor-max reached mark (Some p) None h k = h
floor-max reached mark (Some p) (Some q) h k = dite (dec_le p q)
    (λ le. let e : q ≡ max p q = omega arith in subst (λ n. reached n × (n < mark)) e k)
    (λ gt. let e : p ≡ max p q = omega arith in subst (λ n. reached n × (n < mark)) e h)

-- a mark is not below a floor
pub mark-above : (reached : ℕ → Type 0) (mark : ℕ) (f : Option ℕ) → IsFloor reached mark f → AtLeast (quality mark) f
mark-above reached mark None h = tt
mark-above reached zero (Some p) h = absurd (omega arith)
mark-above reached (suc q) (Some p) h = omega arith

pub mark-above-both : (reached : ℕ → Type 0) (mark : ℕ) (f g : Option ℕ) → IsFloor reached mark (floor_max f g) → AtLeast (quality mark) f × AtLeast (quality mark) g
mark-above-both reached mark None g h = (tt, mark-above reached mark g h)
mark-above-both reached mark (Some p) None h = (mark-above reached mark (Some p) h, tt)
mark-above-both reached zero (Some p) (Some q) h = absurd (omega arith)
mark-above-both reached (suc n) (Some p) (Some q) h = (omega arith, omega arith)

-- a floor stays below a mark that rises
pub raised-above : (reached : ℕ → Type 0) (mark n : ℕ) (f : Option ℕ) → mark ≤ n → IsFloor reached mark f → AtLeast (quality n) f
raised-above reached mark n None le h = tt
raised-above reached mark zero (Some p) le h = absurd (omega arith)
raised-above reached mark (suc q) (Some p) le h = omega arith

-- the quality of a mark is reached
quality-reached : (reached : ℕ → Type 0) (mark : ℕ) → IsMark reached mark → IfSome (quality mark) reached
quality-reached reached zero m = tt
quality-reached reached (suc q) m = m

pub mark-reached : (reached : ℕ → Type 0) (mark : ℕ) (o : Option ℕ) → o ≡ quality mark → IsMark reached mark → IfSome o reached
mark-reached reached mark o e m = subst (λ x. IfSome x reached) (sym e) (quality-reached reached mark m)

-- a seat with a floor never finds the mark 0
pub floor-looked : (reached : ℕ → Type 0) (mark : ℕ) (f : Option ℕ) → IsFloor reached mark f → floor_at mark f ≡ quality mark
floor-looked reached zero None h = refl
floor-looked reached zero (Some p) h = absurd (omega arith)
floor-looked reached (suc q) f h = refl

pub mark-raised : (reached : ℕ → Type 0) (mark k : ℕ) → k < mark → IsMark reached mark → (q : ℕ) × (quality mark ≡ Some q) × reached q × (k ≤ q)
mark-raised reached zero k lt m = absurd (omega arith)
mark-raised reached (suc q) k lt m = (q, refl, m, omega arith)

-- a table that ends
pub ended : {T : Type 0} (size : T → ℕ) (entry : T → ℕ → Entry) (reached : T → ℕ → Type 0) (truth : T) (words rows : List ℕ) (views : List (View T)) (id : ℕ) (v : View T) → Sound size entry reached truth words views → get_elem? views id ≡ some v → words ≡ rows
    → Sound size entry reached truth rows (v ∷ [])
ended size entry reached truth words rows views id v r at e = subst (λ ws. Sound size entry reached truth ws (v ∷ [])) e record {
  wide = r.wide;
  mark = r.mark;
  entries = r.entries;
  each = λ seat w here live. let same = only-one v w seat here in subst (Knows reached truth words) same (r.each id v at (ap (λ u. u.joined) same ∙ live));
}

-- what its seat has seen is filled
pub ended-seen : {T : Type 0} (size : T → ℕ) (entry : T → ℕ → Entry) (reached : T → ℕ → Type 0) (truth : T) (words : List ℕ) (v : View T) → Sound size entry reached truth words (v ∷ []) → v.joined ≡ false → (index : ℕ) → Contains v.seen index → IsFilled words index
ended-seen size entry reached truth words v r live index has = All-contains (IsFilled words) v.seen index (r.each 0 v refl live).seen has

pub found-at : (words : List ℕ) (i n : ℕ) → get_elem? words i ≡ some n → n ≡ slice_index words i
found-at [] i n e = absurd (some-ne-none n (sym e))
found-at (x ∷ xs) zero n e = sym (some-injective x n e)
found-at (x ∷ xs) (suc i) n e = found-at xs i n e

pub contains-last : (xs : List ℕ) (x : ℕ) → Contains (xs ++ x ∷ []) x
contains-last xs x = (length xs, omega (arith, length-append xs (x ∷ [])), get_or-append_seam xs x [] x)

found-last : (xs : List ℕ) (index n : ℕ) → n ≢ 0 → Contains (xs ++ found index n) index
found-last xs index zero h = absurd (h refl)
found-last xs index (suc n) h = contains-last xs index

pub answer-seen : {T : Type 0} (e : Entry) (o : Option Entry) (index n : ℕ) (v w : View T) → w ≡ loaded index n v → MatchOption o (n ≡ 0) (λ x. n ≡ code x) → IsWordOf e n → IfSome o (λ x. (x ≡ e) × Contains w.seen index)
answer-seen e None index n v w is h word = tt
answer-seen e (Some x) index n v w is h word = (entry-is e (Some x) n h word, subst (λ u. Contains u.seen index) (sym is) (found-last v.seen index n (λ z. code-filled x (sym h ∙ z))))

-- what a table's truth and its key are
pub key-is : {T : Type 0} (key inside now : T) (o p : Option T) → key ≡ inside → inside ≡ now → o ≡ p → p ≡ Some now → o ≡ Some key
key-is key inside now o p a b c d = c ∙ d ∙ ap Some (sym (a ∙ b))

module _ {T : Type 0} (size : T → ℕ) (entry : T → ℕ → Entry) (reached : T → ℕ → Type 0) (truth : T) where
  abbrev St : Type 0
  St = State (Unit {0}) (View T)

  abbrev Rule : St → Type 0
  Rule s = Sound size entry reached truth s.words s.views

  -- the word stays as it is
  sound-same : (s : St) → Rule s → (place id : ℕ) (w : View T) → place < length s.words → MayStand size entry reached truth place (slice_index s.words place) → Knows reached truth s.words w
      → Sound size entry reached truth (slice_set s.words place (slice_index s.words place)) (slice_set s.views id w)
  sound-same s r place id w lt may k = let n : ℕ = slice_index s.words place in
      sound-set size entry reached truth s.words s.views r place n lt (rises-refl place n) may id w
      (λ _. knows-grows reached truth s.words (slice_set s.words place n) w (grows-set s.words place n lt (rises-refl place n)) k)

  module _ (slots id : ℕ) (me : Me (Unit {0}) (View T)) (is : me.0.truth ≡ Some truth) (live : me.0.joined ≡ false) where
    of : (t : T) → me.0.truth ≡ Some t → truth ≡ t
    of t e = cc

    pub may-load : (index : ℕ) → index < size truth → Allows Rule slots id me (index + 1) (λ n. n) (loads entry (step slots (index + 1) 0 0 none) me)
    may-load index lt s r _ at small = let n : ℕ = slice_index s.words (index + 1) in let k = r.each id me.0 at live in (
      loaded index n me.0,
      keeps,
      tt,
      sound-same s r (index + 1) id (loaded index n me.0) (omega (arith, r.wide)) (may-at size entry reached truth index n (r.entries index lt)) (knows-loaded size entry reached truth s.words s.views r me.0 index k),
      (
        refl,
        λ i e. let same : index ≡ i = omega arith in subst (λ j. (loaded index n me.0 ≡ loaded j n me.0) × ((t : T) → me.0.truth ≡ Some t → IsWordOf (entry t j) n) × (Contains me.0.seen j → n ≢ 0)) same
            (refl, (λ t e. subst (λ t. IsWordOf (entry t index) n) (of t e) (r.entries index lt)), λ c. All-contains (IsFilled s.words) me.0.seen index k.seen c),
      ),
    )

    pub may-put : (index new : ℕ) → index < size truth → new ≡ code (entry truth index) → Allows Rule slots id me (index + 1) (λ n. either (eqb n 0) new n) (puts (step slots (index + 1) 0 new none) me)
    may-put index new lt e s r _ at small = let n : ℕ = slice_index s.words (index + 1) in let w = filled index n me.0 in (
      w,
      keeps,
      tt,
      subst (λ m. Sound size entry reached truth (slice_set s.words (index + 1) m) (slice_set s.views id w)) (sym (exchange_fills new n ∙ ap (λ m. filling m n) e))
          (sound-filled size entry reached truth s.words s.views r index lt id me.0 (r.each id me.0 at live)),
      (refl, λ i e. let same : index ≡ i = omega arith in subst (λ j. filled index n me.0 ≡ filled j n me.0) same refl),
    )

    told-mark : (s : St) → Rule s → get_elem? s.views id ≡ some me.0 → (t : T) → me.0.truth ≡ Some t → IsMark (reached t) (slice_index s.words 0) × IsFloor (reached t) (slice_index s.words 0) me.0.floor
    told-mark s r at t e = subst (λ t. IsMark (reached t) (slice_index s.words 0) × IsFloor (reached t) (slice_index s.words 0) me.0.floor) (of t e) (r.mark, (r.each id me.0 at live).floor)

    pub may-look : Allows Rule slots id me 0 (λ n. n) (looks reached (step slots 0 0 0 none) me)
    may-look s r _ at small = let w = looked (slice_index s.words 0) me.0 in (
      w,
      keeps,
      tt,
      sound-same s r 0 id w (omega (arith, r.wide)) r.mark (knows-looked size entry reached truth s.words s.views r me.0 (r.each id me.0 at live)),
      (refl, (refl, told-mark s r at)),
    )

    pub may-part : Allows Rule slots id me 0 (λ n. n) (parts reached (step slots 0 0 0 none) me)
    may-part s r _ at small = let w = parted (slice_index s.words 0) me.0 in (
      w,
      keeps,
      tt,
      sound-same s r 0 id w (omega (arith, r.wide)) r.mark (knows-parted size entry reached truth s.words s.views r me.0 (r.each id me.0 at live)),
      (refl, (refl, told-mark s r at)),
    )

    pub may-offer : (q k : ℕ) → k ≡ 1 + q → reached truth q → Allows Rule slots id me 0 (λ n. max n k) (offers reached (step slots 0 k 0 none) me)
    may-offer q k e is_reached = subst (λ k. Allows Rule slots id me 0 (λ n. max n k) (offers reached (step slots 0 k 0 none) me)) (sym e) (λ s r _ at small. let n : ℕ = slice_index s.words 0 in let w = offered (1 + q) n me.0 in (
      w,
      keeps,
      tt,
      sound-offered size entry reached truth s.words s.views r q is_reached id me.0 (r.each id me.0 at live),
      (refl, (refl, λ t e. subst (λ t. IsMark (reached t) (max n (1 + q)) × IsFloor (reached t) n me.0.floor) (of t e) (mark-offered (reached truth) n q r.mark is_reached, (r.each id me.0 at live).floor))),
    ))

  pub may-split : (id : ℕ) (v : View T) → v.joined ≡ false → Splits Rule id v v v
  may-split id v live s r at = let k = r.each id v at live in
      sound-new size entry reached truth s.words (slice_set s.views id v) (sound-view size entry reached truth s.words s.views r id v (λ _. k)) v (λ _. k)

  pub may-join : (id other : ℕ) (v w : View T) → v.joined ≡ false → w.joined ≡ false → Joins Rule id v other w (taken_in v w) gone
  may-join id other v w live alive s r at ne at' = let l = r.each other w (⊎_elim (λ e. absurd (ne e.0)) (λ e. e.1) (at_set s.views id other (taken_in v w) w at')) alive in let k = r.each id v at live in
      sound-view size entry reached truth s.words (slice_set s.views id (taken_in v w)) (sound-view size entry reached truth s.words s.views r id (taken_in v w) (λ _. record {
        same = k.same;
        seen = All-append (IsFilled s.words) v.seen w.seen k.seen l.seen;
        floor = floor-max (reached truth) (slice_index s.words 0) v.floor w.floor k.floor l.floor;
        last = k.last;
      })) other gone (knows-gone size entry reached truth s.words)

-- a seen index has its entry's word in all sound words
pub seen-word : {T : Type 0} (size : T → ℕ) (entry : T → ℕ → Entry) (reached : T → ℕ → Type 0) (truth : T) (v : View T) (index : ℕ) (e : Entry) → index < size truth → v.joined ≡ false → Contains v.seen index → e ≡ entry truth index
    → WithAllSound size entry reached truth v (λ words. slice_index words (index + 1) ≡ code e)
seen-word size entry reached truth v index e lt live has is = λ words views place at sound.
    let k = sound.each place v at live in
    let there = All-contains (IsFilled words) v.seen index k.seen has in
    ⊎_elim (λ z. absurd (there z)) (λ same. same ∙ ap code (sym is)) (sound.entries index lt)

-- a mark is not below a number whose quality is a floor
floor-below : (reached : ℕ → Type 0) (mark n : ℕ) → IsFloor reached mark (quality n) → n ≤ mark
floor-below reached mark zero h = omega arith
floor-below reached mark (suc q) h = omega (arith, h.1)

same-found : (m n place : ℕ) (o : Option (ℕ × ℕ)) → o ≡ Some (place, m) → o ≡ Some (place, n) → m ≡ n
same-found m n place o d e = ap found_word (sym d ∙ e)

-- in all sound words the mark is at least what an offer left
pub offered-mark : {T : Type 0} (size : T → ℕ) (entry : T → ℕ → Entry) (reached : T → ℕ → Type 0) (truth : T) (v : View T) (n q : ℕ) → v.joined ≡ false → v.floor ≡ quality (max n (1 + q)) → v.last ≡ Some (0, n)
    → (found : ℕ) → v.last ≡ Some (0, found) → WithAllSound size entry reached truth v (λ words. max found (1 + q) ≤ slice_index words 0)
offered-mark size entry reached truth v n q live floor last = λ found e words views place at sound.
    let k = sound.each place v at live in
    let same : n ≡ found = same-found n found 0 v.last last e in
    let low : max n (1 + q) ≤ slice_index words 0 = floor-below (reached truth) (slice_index words 0) (max n (1 + q)) (subst (λ f. IsFloor (reached truth) (slice_index words 0) f) floor k.floor) in
    subst (λ m. max m (1 + q) ≤ slice_index words 0) same low
