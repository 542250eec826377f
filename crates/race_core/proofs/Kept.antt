-- What a core keeps, and its views.
use Rattle.std.proofs.Common.{◌≡◌, ℕ, zero, suc, ◌+◌, ◌<◌, ◌≤◌, max, true, cond, List, [], ◌∷◌, ◌++◌, Option, Some, None, set, get_or, length, nat_lt, nat_eq, slice_set, sym, refl, ap, ◌∙◌, subst, arith, take, add-one, ◌^◌, length-append, length-set}
use Rattle.std.proofs.lemmas.Bool.{lt-ltb, ne_eqb, eq-eqb}
use Rattle.race_core.specs.declared.entry.Entry.{Entry}
use Rattle.race_core.specs.declared.event.Event.{Event}
use Rattle.race_core.specs.declared.event.Event.TheVariants.{Load, Put, See, Offer, Split, Join}
use Rattle.race_core.specs.declared.view.View.{View}
use Rattle.race_core.specs.Events.{CoreFields, live_or_none, live_at, at_live, word, set_word, set_view, new_view, after, after_all, IsLawful, AreLawful, loaded, filled, looked, offered, parted, merged, gone, filling, found, floor_at, noted, with_floor}
use Rattle.race_core.specs.Sound.{Knows, Sound, IsSound, IsMark}
use Rattle.race_core.proofs.Steps.{sound-new, sound-view, knows-parted, knows-merged}
use Rattle.race_core.proofs.Plays.{live-there, steady-all}
use Rattle.race_core.specs.Seats.{SeatStateFields, seat_view, view_of, views_of, noting}
use Rattle.race_core.specs.Codes.{code, quality}

taken-suc : {A : Type 0} (es : List A) (i : ℕ) (e d : A) → i < length es → e ≡ get_or es i d → take (suc i) es ≡ take i es ++ e ∷ []
taken-suc [] i e d lt at = absurd (omega arith)
taken-suc (x ∷ xs) zero e d lt at = ap (λ y. y ∷ []) (sym at)
taken-suc (x ∷ xs) (suc i) e d lt at = ap (λ ys. x ∷ ys) (taken-suc xs i e d (omega arith) at)

taken : {A : Type 0} (es : List A) (i : ℕ) (e d : A) → i < length es → e ≡ get_or es i d → take (i + 1) es ≡ take i es ++ e ∷ []
taken es i e d lt at = ap (λ n. take n es) (add-one i) ∙ taken-suc es i e d lt at

module _ {T : Type 0} (t : T) where
  pub live-past : (ks : List (Option SeatStateFields)) (seat : ℕ) → length ks ≤ seat → live_at (views_of t ks) seat ≡ None
  live-past [] seat h = refl
  live-past (k ∷ ks) zero h = absurd (omega arith)
  live-past (k ∷ ks) (suc seat) h = live-past ks seat (omega arith)

  pub live-some : (ks : List (Option SeatStateFields)) (seat : ℕ) (k : SeatStateFields) → seat < length ks → get_or ks seat (Some k) ≡ Some k → live_at (views_of t ks) seat ≡ Some (seat_view t k)
  live-some [] seat k h e = absurd (omega arith)
  live-some (x ∷ xs) zero k h e = subst (λ x. live_or_none (view_of t x).joined (view_of t x) ≡ Some (seat_view t k)) (sym e) refl
  live-some (x ∷ xs) (suc seat) k h e = live-some xs seat k (omega arith) e

  pub live-none : (ks : List (Option SeatStateFields)) (seat : ℕ) → get_or ks seat None ≡ None → live_at (views_of t ks) seat ≡ None
  live-none [] seat e = refl
  live-none (x ∷ xs) zero e = subst (λ x. live_or_none (view_of t x).joined (view_of t x) ≡ None) (sym e) refl
  live-none (x ∷ xs) (suc seat) e = live-none xs seat e

module _ {T : Type 0} where
  -- a seat that is live has a place
  pub live-inside : (views : List (View T)) (seat : ℕ) (v : View T) → live_at views seat ≡ Some v → seat < length views
  live-inside [] seat v e = cc
  live-inside (w ∷ ws) zero v e = omega arith
  live-inside (w ∷ ws) (suc seat) v e = let r = live-inside ws seat v e in omega arith

  module _ (size : T → ℕ) (c : CoreFields T) (seat : ℕ) (v : View T) (live : live_at c.views seat ≡ Some v) where
    pub load-is : (index : ℕ) → nat_lt index (size c.truth) ≡ true → after size c (Load seat index) ≡ set_view seat (loaded index (word c (index + 1)) v) c
    load-is index lt = ap (λ o. at_live o (λ v. cond (nat_lt index (size c.truth)) (set_view seat (loaded index (word c (index + 1)) v) c) c) c) live
        ∙ ap (λ b. cond b (set_view seat (loaded index (word c (index + 1)) v) c) c) lt

    pub put-is : (index : ℕ) (e : Entry) → nat_lt index (size c.truth) ≡ true
        → after size c (Put seat index e) ≡ set_view seat (filled index (word c (index + 1)) v) (set_word (index + 1) (filling (code e) (word c (index + 1))) c)
    put-is index e lt = ap (λ o. at_live o (λ v. cond (nat_lt index (size c.truth)) (set_view seat (filled index (word c (index + 1)) v) (set_word (index + 1) (filling (code e) (word c (index + 1))) c)) c) c) live
        ∙ ap (λ b. cond b (set_view seat (filled index (word c (index + 1)) v) (set_word (index + 1) (filling (code e) (word c (index + 1))) c)) c) lt

  module _ (size : T → ℕ) (c : CoreFields T) (seat : ℕ) (k p : SeatStateFields) (live : live_at c.views seat ≡ Some (seat_view c.truth k)) where
    pub load-done : (index n : ℕ) → index < size c.truth → n ≡ word c (index + 1) → p ≡ noting (index + 1) n (record k { seen = k.seen ++ found index n })
        → after size c (Load seat index) ≡ set_view seat (seat_view c.truth p) c
    load-done index n lt w e = load-is size c seat (seat_view c.truth k) live index (lt-ltb index (size c.truth) lt) ∙ ap (λ n. set_view seat (loaded index n (seat_view c.truth k)) c) (sym w)
        ∙ ap (λ p. set_view seat (seat_view c.truth p) c) (sym e)

    pub put-done : (index n new : ℕ) (e : Entry) → index < size c.truth → n ≡ word c (index + 1) → new ≡ filling (code e) n → p ≡ noting (index + 1) n (record k { seen = k.seen ++ index ∷ [] })
        → after size c (Put seat index e) ≡ set_view seat (seat_view c.truth p) (set_word (index + 1) new c)
    put-done index n new en lt w f e = put-is size c seat (seat_view c.truth k) live index en (lt-ltb index (size c.truth) lt)
        ∙ ap (λ n. set_view seat (filled index n (seat_view c.truth k)) (set_word (index + 1) (filling (code en) n) c)) (sym w)
        ∙ ap (λ m. set_view seat (filled index n (seat_view c.truth k)) (set_word (index + 1) m c)) (sym f)
        ∙ ap (λ p. set_view seat (seat_view c.truth p) (set_word (index + 1) new c)) (sym e)

    pub see-done : (n : ℕ) → n ≡ word c 0 → p ≡ record (noting 0 n k) { floor = floor_at n k.floor } → after size c (See seat) ≡ set_view seat (seat_view c.truth p) c
    see-done n w e = ap (λ o. at_live o (λ v. set_view seat (looked (word c 0) v) c) c) live ∙ ap (λ n. set_view seat (looked n (seat_view c.truth k)) c) (sym w)
        ∙ ap (λ p. set_view seat (seat_view c.truth p) c) (sym e)

    pub offer-done : (n new q : ℕ) → n ≡ word c 0 → new ≡ max n (1 + q) → p ≡ record (noting 0 n k) { floor = quality new } → after size c (Offer seat q) ≡ set_view seat (seat_view c.truth p) (set_word 0 new c)
    offer-done n new q w f e = ap (λ o. at_live o (λ v. set_view seat (offered (1 + q) (word c 0) v) (set_word 0 (max (word c 0) (1 + q)) c)) c) live
        ∙ ap (λ n. set_view seat (offered (1 + q) n (seat_view c.truth k)) (set_word 0 (max n (1 + q)) c)) (sym w)
        ∙ ap (λ m. set_view seat (noted 0 n (with_floor (quality m) (seat_view c.truth k))) (set_word 0 m c)) (sym f)
        ∙ ap (λ p. set_view seat (seat_view c.truth p) (set_word 0 new c)) (sym e)

pub inside-longer : {A : Type 0} (xs : List A) (y : A) (i : ℕ) → i < length xs → i < length (xs ++ y ∷ [])
inside-longer xs y i h = omega (arith, length-append xs (y ∷ []))

pub inside-set : {A : Type 0} (xs : List A) (j : ℕ) (y : A) (i : ℕ) → i < length xs → i < length (set xs j y)
inside-set xs j y i h = omega (arith, length-set xs j y)

set-front : {A : Type 0} (xs ys : List A) (i : ℕ) (a : A) → i < length xs → set (xs ++ ys) i a ≡ set xs i a ++ ys
set-front [] ys i a h = absurd (omega arith)
set-front (x ∷ xs) ys zero a h = refl
set-front (x ∷ xs) ys (suc i) a h = ap (λ zs. x ∷ zs) (set-front xs ys i a (omega arith))

module _ {T : Type 0} (size : T → ℕ) (c : CoreFields T) where
  pub split-done : (seat : ℕ) (k p : SeatStateFields) (n : ℕ) → live_at c.views seat ≡ Some (seat_view c.truth k) → n ≡ word c 0 → p ≡ record (noting 0 n k) { floor = quality n }
      → after size c (Split seat) ≡ set_view seat (seat_view c.truth p) (new_view (seat_view c.truth p) c)
  split-done seat k p n live w e = ap (λ o. at_live o (λ v. new_view (parted (word c 0) v) (set_view seat (parted (word c 0) v) c)) c) live
      ∙ ap (λ n. new_view (parted n (seat_view c.truth k)) (set_view seat (parted n (seat_view c.truth k)) c)) (sym w)
      ∙ ap (λ p. new_view (seat_view c.truth p) (set_view seat (seat_view c.truth p) c)) (sym e)
      ∙ ap (λ vs. record c { views = vs }) (sym (set-front c.views (seat_view c.truth p ∷ []) seat (seat_view c.truth p) (live-inside c.views seat (seat_view c.truth k) live)))

  pub join-done : (into from : ℕ) (k l p : SeatStateFields) (n : ℕ) → ¬ (into ≡ from) → live_at c.views into ≡ Some (seat_view c.truth k) → live_at c.views from ≡ Some (seat_view c.truth l)
      → n ≡ word c 0 → p ≡ record (noting 0 n (record k { seen = k.seen ++ l.seen })) { floor = quality n }
      → after size c (Join into from) ≡ set_view from gone (set_view into (seat_view c.truth p) c)
  join-done into from k l p n ne live alive w e =
      ap (λ o. at_live o (λ v. at_live (live_at c.views from) (λ w. cond (nat_eq into from) c (set_view from gone (set_view into (merged (word c 0) v w) c))) c) c) live
      ∙ ap (λ o. at_live o (λ w. cond (nat_eq into from) c (set_view from gone (set_view into (merged (word c 0) (seat_view c.truth k) w) c))) c) alive
      ∙ ap (λ b. cond b c (set_view from gone (set_view into (merged (word c 0) (seat_view c.truth k) (seat_view c.truth l)) c))) (ne_eqb into from ne)
      ∙ ap (λ n. set_view from gone (set_view into (merged n (seat_view c.truth k) (seat_view c.truth l)) c)) (sym w)
      ∙ ap (λ p. set_view from gone (set_view into (seat_view c.truth p) c)) (sym e)

  at-same : (o : Option (View T)) (f : View T → CoreFields T) → ((v : View T) → f v ≡ c) → at_live o f c ≡ c
  at-same None f h = refl
  at-same (Some v) f h = h v

  pub join-same : (into from : ℕ) → into ≡ from → after size c (Join into from) ≡ c
  join-same into from e = at-same (live_at c.views into) _ (λ v. at-same (live_at c.views from) _ (λ w. ap (λ b. cond b c (set_view from gone (set_view into (merged (word c 0) v w) c))) (eq-eqb into from e)))

  pub join-other : (into from : ℕ) → live_at c.views from ≡ None → after size c (Join into from) ≡ c
  join-other into from e = at-same (live_at c.views into) _ (λ v. ap (λ o. at_live o (λ w. cond (nat_eq into from) c (set_view from gone (set_view into (merged (word c 0) v w) c))) c) e)

module _ {T : Type 0} (size : T → ℕ) (entry : T → ℕ → Entry) (reached : T → ℕ → Type 0) (c : CoreFields T) (r : IsSound size entry reached c) (seat : ℕ) (k p : SeatStateFields) (n : ℕ)
    (live : live_at c.views seat ≡ Some (seat_view c.truth k)) (w : n ≡ word c 0) where
  pub knows-split : p ≡ record (noting 0 n k) { floor = quality n } → Knows reached c.truth c.words (seat_view c.truth p)
  knows-split e = subst (Knows reached c.truth c.words) (ap (λ n. parted n (seat_view c.truth k)) (sym w) ∙ ap (λ p. seat_view c.truth p) (sym e))
      (knows-parted size entry reached c.truth c.words c.views r (seat_view c.truth k) (r.each seat _ (live-there c.views seat _ live) refl))

  pub split-enters : p ≡ record (noting 0 n k) { floor = quality n } → Sound size entry reached c.truth c.words (c.views ++ seat_view c.truth p ∷ [])
  split-enters e = sound-new size entry reached c.truth c.words c.views r _ (λ _. knows-split e)

  pub split-settles : p ≡ record (noting 0 n k) { floor = quality n } → Sound size entry reached c.truth c.words (slice_set (c.views ++ seat_view c.truth p ∷ []) seat (seat_view c.truth p))
  split-settles e = sound-view size entry reached c.truth c.words _ (split-enters e) seat _ (λ _. knows-split e)

  pub join-settles : (from : ℕ) (l : SeatStateFields) → live_at c.views from ≡ Some (seat_view c.truth l) → p ≡ record (noting 0 n (record k { seen = k.seen ++ l.seen })) { floor = quality n }
      → Sound size entry reached c.truth c.words (slice_set c.views seat (seat_view c.truth p))
  join-settles from l alive e = sound-view size entry reached c.truth c.words c.views r seat _
      (λ _. subst (Knows reached c.truth c.words) (ap (λ n. merged n (seat_view c.truth k) (seat_view c.truth l)) (sym w) ∙ ap (λ p. seat_view c.truth p) (sym e))
      (knows-merged size entry reached c.truth c.words c.views r (seat_view c.truth k) (seat_view c.truth l) (r.each seat _ (live-there c.views seat _ live) refl) (r.each from _ (live-there c.views from _ alive) refl)))

pub mark-below : (reached : ℕ → Type 0) (mark : ℕ) → ((q : ℕ) → reached q → q < 2 ^ 32) → IsMark reached mark → mark < 4294967297
mark-below reached zero fits m = omega arith
mark-below reached (suc q) fits m = omega (arith, fits q m)

module _ {T : Type 0} (size : T → ℕ) (entry : T → ℕ → Entry) (reached : T → ℕ → Type 0) where
  pub after-snoc : (c : CoreFields T) (es : List Event) (e : Event) → after_all size c (es ++ e ∷ []) ≡ after size (after_all size c es) e
  after-snoc c [] e = refl
  after-snoc c (x ∷ xs) e = after-snoc (after size c x) xs e

  pub lawful-take : (t : T) (es : List Event) (n : ℕ) → AreLawful size entry reached t es → AreLawful size entry reached t (take n es)
  lawful-take t [] zero h = tt
  lawful-take t [] (suc n) h = tt
  lawful-take t (e ∷ es) zero h = tt
  lawful-take t (e ∷ es) (suc n) h = (h.0, lawful-take t es n h.1)

  pub lawful-at : (t : T) (es : List Event) (i : ℕ) (e d : Event) → i < length es → e ≡ get_or es i d → AreLawful size entry reached t es → IsLawful size entry reached t e
  lawful-at t [] i e d lt is h = absurd (omega arith)
  lawful-at t (x ∷ xs) zero e d lt is h = subst (IsLawful size entry reached t) (sym is) h.0
  lawful-at t (x ∷ xs) (suc i) e d lt is h = lawful-at t xs i e d (omega arith) is h.1

  -- the next event of a run
  pub lawful-next : (c b : CoreFields T) (es : List Event) (i : ℕ) (e d : Event) → IsSound size entry reached c → AreLawful size entry reached c.truth es → b ≡ after_all size c (take i es) → i < length es → e ≡ get_or es i d
      → IsLawful size entry reached b.truth e
  lawful-next c b es i e d r h is lt at = subst (λ t. IsLawful size entry reached t e) (sym (ap (λ x. x.truth) is ∙ (steady-all size entry reached c (take i es) r (lawful-take c.truth es i h)).truth)) (lawful-at c.truth es i e d lt at h)

  pub run-more : (c b d : CoreFields T) (es : List Event) (i : ℕ) (e x : Event) → b ≡ after_all size c (take i es) → d ≡ after size b e → i < length es → e ≡ get_or es i x → d ≡ after_all size c (take (i + 1) es)
  run-more c b d es i e x is next lt at = next ∙ ap (λ y. after size y e) is ∙ sym (after-snoc c (take i es) e) ∙ ap (after_all size c) (sym (taken es i e x lt at))
