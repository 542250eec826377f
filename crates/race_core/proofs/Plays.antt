-- Each event keeps what holds.
use Rattle.std.proofs.Common.{◌≡◌, ℕ, zero, suc, ◌+◌, Bool, true, false, cond, List, [], ◌∷◌, Option, Some, None, nat_lt, nat_eq, sym, refl, ap, ◌∙◌, subst}
use Rattle.std.proofs.lemmas.Bool.{ltb-true}
use mathlib.Core.Option.{some}
use lib.ListN.{get_elem?}
use Rattle.race_core.specs.declared.entry.Entry.{Entry}
use Rattle.race_core.specs.declared.event.Event.{Event}
use Rattle.race_core.specs.declared.event.Event.TheVariants.{Load, Put, See, Offer, Split, Join}
use Rattle.race_core.specs.declared.view.View.{View}
use Rattle.race_core.specs.Codes.{code}
use Rattle.race_core.specs.Events.{CoreFields, live_or_none, live_at, at_live, word, set_word, set_view, after, after_all, IsLawful, AreLawful, filled, merged, gone, filling}
use Rattle.race_core.specs.Sound.{Knows, IsSound, Steady, SteadyAlong}
use Rattle.race_core.proofs.Steps.{grows-refl, grows-trans, sound-new, sound-view, sound-filled, filled-grows, sound-offered, offered-grows, knows-loaded, knows-looked, knows-parted, knows-merged, knows-gone}

module _ {T : Type 0} where
  live-of : (b : Bool) (v w : View T) → live_or_none b v ≡ Some w → v ≡ w
  live-of true v w e = cc
  live-of false v w e = cc

  -- a seat that is live is there
  pub live-there : (views : List (View T)) (seat : ℕ) (v : View T) → live_at views seat ≡ Some v → get_elem? views seat ≡ some v
  live-there [] seat v e = cc
  live-there (w ∷ ws) zero v e = ap some (live-of w.joined w v e)
  live-there (w ∷ ws) (suc seat) v e = live-there ws seat v e

  live-joined : (b : Bool) (v w : View T) → live_or_none b v ≡ Some w → b ≡ false
  live-joined true v w e = cc
  live-joined false v w e = refl

  -- a seat that is live was not joined away
  pub live-still : (views : List (View T)) (seat : ℕ) (v : View T) → live_at views seat ≡ Some v → v.joined ≡ false
  live-still [] seat v e = cc
  live-still (w ∷ ws) zero v e = subst (λ u. u.joined ≡ false) (live-of w.joined w v e) (live-joined w.joined w v e)
  live-still (w ∷ ws) (suc seat) v e = live-still ws seat v e

  pub at-live : (P : CoreFields T → Type 0) (o : Option (View T)) (f : View T → CoreFields T) (c : CoreFields T) → P c → ((v : View T) → o ≡ Some v → P (f v)) → P (at_live o f c)
  at-live P None f c h k = h
  at-live P (Some v) f c h k = k v refl

  pub at-cond : (P : CoreFields T → Type 0) (b : Bool) (x y : CoreFields T) → (b ≡ true → P x) → P y → P (cond b x y)
  at-cond P true x y h k = h refl
  at-cond P false x y h k = k

module _ {T : Type 0} (size : T → ℕ) (entry : T → ℕ → Entry) (reached : T → ℕ → Type 0) where
  module _ (c : CoreFields T) (r : IsSound size entry reached c) where
    stays : Steady size entry reached c c
    stays = record { truth = refl; sound = r; grown = grows-refl c.words }

    there : (seat : ℕ) (v : View T) → live_at c.views seat ≡ Some v → Knows reached c.truth c.words v
    there seat v e = r.each seat v (live-there c.views seat v e) (live-still c.views seat v e)

    -- one event
    pub steady : (e : Event) → IsLawful size entry reached c.truth e → Steady size entry reached c (after size c e)
    steady (Load seat index) lawful = at-live (Steady size entry reached c) (live_at c.views seat) _ c stays (λ v live. at-cond (Steady size entry reached c) (nat_lt index (size c.truth)) _ c (λ lt. record {
      truth = refl;
      sound = sound-view size entry reached c.truth c.words c.views r seat _ (λ _. knows-loaded size entry reached c.truth c.words c.views r v index (there seat v live));
      grown = grows-refl c.words;
    }) stays)
    steady (Put seat index e) lawful = at-live (Steady size entry reached c) (live_at c.views seat) _ c stays (λ v live. at-cond (Steady size entry reached c) (nat_lt index (size c.truth)) _ c (λ lt.
        subst (λ e. Steady size entry reached c (set_view seat (filled index (word c (index + 1)) v) (set_word (index + 1) (filling (code e) (word c (index + 1))) c))) (sym (lawful (ltb-true index (size c.truth) lt))) record {
          truth = refl;
          sound = sound-filled size entry reached c.truth c.words c.views r index (ltb-true index (size c.truth) lt) seat v (there seat v live);
          grown = filled-grows size entry reached c.truth c.words c.views r index (ltb-true index (size c.truth) lt);
        }) stays)
    steady (See seat) lawful = at-live (Steady size entry reached c) (live_at c.views seat) _ c stays (λ v live. record {
      truth = refl;
      sound = sound-view size entry reached c.truth c.words c.views r seat _ (λ _. knows-looked size entry reached c.truth c.words c.views r v (there seat v live));
      grown = grows-refl c.words;
    })
    steady (Offer seat q) lawful = at-live (Steady size entry reached c) (live_at c.views seat) _ c stays (λ v live. record {
      truth = refl;
      sound = sound-offered size entry reached c.truth c.words c.views r q lawful seat v (there seat v live);
      grown = offered-grows size entry reached c.truth c.words c.views r q lawful;
    })
    steady (Split seat) lawful = at-live (Steady size entry reached c) (live_at c.views seat) _ c stays (λ v live.
        let k = knows-parted size entry reached c.truth c.words c.views r v (there seat v live) in record {
          truth = refl;
          sound = sound-new size entry reached c.truth c.words _ (sound-view size entry reached c.truth c.words c.views r seat _ (λ _. k)) _ (λ _. k);
          grown = grows-refl c.words;
        })
    steady (Join into from) lawful = at-live (Steady size entry reached c) (live_at c.views into) _ c stays (λ v live. at-live (Steady size entry reached c) (live_at c.views from) _ c stays (λ w alive.
        elim (nat_eq into from) as (λ b. Steady size entry reached c (cond b c (set_view from gone (set_view into (merged (word c 0) v w) c)))) [
          | true ↦ stays
          | false ↦ record {
            truth = refl;
            sound = sound-view size entry reached c.truth c.words _ (sound-view size entry reached c.truth c.words c.views r into _
                (λ _. knows-merged size entry reached c.truth c.words c.views r v w (there into v live) (there from w alive))) from gone (knows-gone size entry reached c.truth c.words);
            grown = grows-refl c.words;
          }
        ]))

  pub steady-refl : (c : CoreFields T) → IsSound size entry reached c → Steady size entry reached c c
  steady-refl c r = record { truth = refl; sound = r; grown = grows-refl c.words }

  pub steady-trans : (a b c : CoreFields T) → Steady size entry reached a b → Steady size entry reached b c → Steady size entry reached a c
  steady-trans a b c h k = record { truth = k.truth ∙ h.truth; sound = k.sound; grown = grows-trans a.words b.words c.words h.grown k.grown }

  -- every lawful list of events
  pub steady-along : (c : CoreFields T) (es : List Event) → IsSound size entry reached c → AreLawful size entry reached c.truth es → SteadyAlong size entry reached c es
  steady-along c [] r lawful = r
  steady-along c (e ∷ es) r lawful = let s = steady c r e lawful.0 in
      (r, s, steady-along (after size c e) es s.sound (subst (λ t. AreLawful size entry reached t es) (sym s.truth) lawful.1))

  pub steady-all : (c : CoreFields T) (es : List Event) → IsSound size entry reached c → AreLawful size entry reached c.truth es → Steady size entry reached c (after_all size c es)
  steady-all c [] r lawful = steady-refl c r
  steady-all c (e ∷ es) r lawful = let s = steady c r e lawful.0 in
      steady-trans c (after size c e) (after_all size (after size c e) es) s (steady-all (after size c e) es s.sound (subst (λ t. AreLawful size entry reached t es) (sym s.truth) lawful.1))
