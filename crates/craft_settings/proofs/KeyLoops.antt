-- The keys of a version from a place on.
use Rattle.std.proofs.Common.{◌≡◌, ◌<◌, ◌+◌, ◌-◌, ℕ, zero, suc, ap, Bool, true, false, cond, List, ◌∷◌, Option, None, refl, arith, inl, inr}
use Rattle.std.proofs.lemmas.Bool.{cases_Bool}
use Rattle.std.specs.List.{filter, list_any, range_with_len}
use Rattle.craft_settings.specs.declared.fault.SettingsFault.{SettingsFault}
use Rattle.craft_settings.specs.Fault.{first_some}
use Rattle.craft_settings.specs.Keys.{has_key, places}

-- the keys from a place on
abbrev pub places_from : (two : Bool) → ℕ → List ℕ
places_from two place = filter (has_key two) (range_with_len place (24 - place))

pub places_from-start : (two : Bool) → places_from two 0 ≡ places two
unfolding places
places_from-start two = refl

range-more : (a n m : ℕ) → n ≡ m + 1 → range_with_len a n ≡ a ∷ range_with_len (a + 1) m
range-more a zero m e = absurd (omega (arith, e))
range-more a (suc n) m e = let same : n ≡ m = omega (arith, e) in rw same

next : (two : Bool) (place : ℕ) → place < 24
    → places_from two place ≡ cond (has_key two place) (place ∷ places_from two (place + 1)) (places_from two (place + 1))
next two place inside = ap (filter (has_key two)) (range-more place (24 - place) (24 - (place + 1)) (omega (arith, inside)))

pub first_some-next : (f : ℕ → Option SettingsFault) (two : Bool) (place : ℕ) → place < 24 → (has_key two place ≡ true → f place ≡ None)
    → first_some f (places_from two (place + 1)) ≡ first_some f (places_from two place)
first_some-next f two place inside none =
    rw (next two place inside) (elim (cases_Bool (has_key two place)) [
      | inl has ↦ rw (has, none has)
      | inr lacks ↦ rw lacks
    ])

pub list_any-next : (p : ℕ → Bool) (two : Bool) (place : ℕ) → place < 24 → (has_key two place ≡ true → p place ≡ false)
    → list_any p (places_from two (place + 1)) ≡ list_any p (places_from two place)
list_any-next p two place inside none =
    rw (next two place inside) (elim (cases_Bool (has_key two place)) [
      | inl has ↦ rw (has, none has)
      | inr lacks ↦ rw lacks
    ])
