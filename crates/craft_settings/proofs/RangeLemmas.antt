-- Where no number is out of range, each number is in its range.
use Rattle.std.proofs.Common.{◌≡◌, ◌≤◌, ◌%◌, ◌==◌, ℕ, ℤ, pos, negsuc, Bool, true, false, List, [], ◌∷◌, Option, Some, None, option_map, refl, inl, inr, arith, nat_le, ◌&&◌}
use Rattle.std.proofs.lemmas.Bool.{cases_Bool, false≢true, and_parts}
use Rattle.std.proofs.lemmas.Bool.Decides.{nat_tests}
use Rattle.std.specs.List.{list_any}
use Rattle.std.specs.Option.{option_or}
use Rattle.toml.specs.Data.{Members}
use Rattle.craft_settings.specs.declared.checks.Check.TheVariants.{Range}
use Rattle.craft_settings.specs.declared.fault.SettingsFault.{SettingsFault}
use Rattle.craft_settings.specs.declared.fault.SettingsFault.TheVariants.{OutOfRange}
use Rattle.craft_settings.specs.declared.keys.Kind.{Kind}
use Rattle.craft_settings.specs.declared.keys.Kind.TheVariants.{Number, Fives}
use Rattle.craft_settings.specs.Ranges.{IsFromTo}
use Rattle.craft_settings.specs.Keys.{row_of, rows, places, level_key, cp_key, craftsmanship_key, control_key, durability_key, progress_key, quality_key, initial_quality_key, progress_div_key, quality_div_key, progress_mod_key, quality_mod_key, target_key, base_progress_key, base_quality_key}
use Rattle.craft_settings.specs.Fault.{first_some, when, fits, stray, integer_of}
use Rattle.craft_settings.specs.Reading.{natural, number_from, number_at}
use Rattle.craft_settings.specs.Steps.{outside_at, fault_at, base_fault, IsInRange}
use Rattle.plain_lemmas.proofs.Tests.{not_false}

pub or_none : {A : Type 0} (a b : Option A) → option_or a b ≡ None → (a ≡ None) × (b ≡ None)
or_none None b h = (refl, h)
or_none (Some x) b h = cc

-- f gives nothing at a place of the list
pub none-member : (f : ℕ → Option SettingsFault) (xs : List ℕ) (p : ℕ) → list_any (λ q. q == p) xs ≡ true → first_some f xs ≡ None → f p ≡ None
none-member f [] p at none = absurd (false≢true at)
none-member f (x ∷ xs) p at none =
    let (here, later) = or_none (f x) (first_some f xs) none in
    elim (cases_Bool (x == p)) [
      | inl same ↦ let e : x ≡ p = grind (arith, nat_tests) in rw (← e) here
      | inr other ↦ none-member f xs p (rw other at at) later
    ]

map_none : {A B : Type 0} (f : A → B) (o : Option A) → option_map f o ≡ None → o ≡ None
map_none f None h = refl
map_none f (Some x) h = cc

when_none : {A : Type 0} (b : Bool) (x : A) → when b x ≡ None → b ≡ false
when_none true x h = cc
when_none false x h = refl

-- the number that isn't out of range fits
stray-fits : (kind : Kind) (z : ℤ) → stray kind (Some z) ≡ None → fits kind z ≡ true
unfolding stray
stray-fits kind z none = not_false _ (when_none _ z none)

-- a number that fits, or stands for one that is absent, is in the range
natural_within : (o : Option ℤ) (low high other : ℕ) → stray (Number low high) o ≡ None → low ≤ other → other ≤ high
    → (low ≤ natural other o) × (natural other o ≤ high)
natural_within None low high other none a b = (a, b)
natural_within (Some (pos n)) low high other none a b =
    let (below, above) = and_parts (nat_le low n) (nat_le n high) (stray-fits (Number low high) (pos n) none) in
    grind (arith, nat_tests)
natural_within (Some (negsuc n)) low high other none a b =
    absurd (false≢true (stray-fits (Number low high) (negsuc n) none))

fives_within : (o : Option ℤ) (low high other : ℕ) → stray (Fives low high) o ≡ None → low ≤ other → other ≤ high → other % 5 ≡ 0
    → (low ≤ natural other o) × (natural other o ≤ high) × (natural other o % 5 ≡ 0)
fives_within None low high other none a b five = (a, b, five)
fives_within (Some (pos n)) low high other none a b five =
    let (range, fives) = and_parts (nat_le low n && nat_le n high) (n % 5 == 0) (stray-fits (Fives low high) (pos n) none) in
    let (below, above) = and_parts (nat_le low n) (nat_le n high) range in
    grind (arith, nat_tests)
fives_within (Some (negsuc n)) low high other none a b five =
    absurd (false≢true (stray-fits (Fives low high) (negsuc n) none))

-- a place that both lists have
abbrev is_listed : ℕ → Bool
is_listed place = list_any (λ q. q == place) (places false) && list_any (λ q. q == place) (places true)

none_at : (two : Bool) (doc : Members) (place : ℕ) → is_listed place ≡ true → first_some (fault_at Range doc) (places two) ≡ None → stray (row_of place).kind (integer_of doc (row_of place)) ≡ None
unfolding outside_at
none_at true doc place at none = map_none (OutOfRange place) _ (none-member (fault_at Range doc) (places true) place (and_parts _ _ at).1 none)
none_at false doc place at none = map_none (OutOfRange place) _ (none-member (fault_at Range doc) (places false) place (and_parts _ _ at).0 none)

within : (two : Bool) (doc : Members) (place low high other : ℕ) → is_listed place ≡ true → first_some (fault_at Range doc) (places two) ≡ None
    → (row_of place).kind ≡ Number low high → low ≤ other → other ≤ high → (low ≤ number_at doc place other) × (number_at doc place other ≤ high)
unfolding number_from row_of
within two doc place low high other at none kind a b =
    natural_within (integer_of doc (row_of place)) low high other (rw kind at (none_at two doc place at none)) a b

fives : (two : Bool) (doc : Members) (place low high other : ℕ) → is_listed place ≡ true → first_some (fault_at Range doc) (places two) ≡ None
    → (row_of place).kind ≡ Fives low high → low ≤ other → other ≤ high → other % 5 ≡ 0 → (low ≤ number_at doc place other) × (number_at doc place other ≤ high) × (number_at doc place other % 5 ≡ 0)
unfolding number_from row_of
fives two doc place low high other at none kind a b five =
    fives_within (integer_of doc (row_of place)) low high other (rw kind at (none_at two doc place at none)) a b five

pub IsInRange-from : (two : Bool) (doc : Members) → first_some (fault_at Range doc) (places two) ≡ None → IsInRange doc
unfolding row_of rows places
IsInRange-from two doc none = let quality = within two doc quality_key 0 100000 0 refl none refl (omega arith) (omega arith) in record {
  level = within two doc level_key 1 100 1 refl none refl (omega arith) (omega arith);
  cp = (within two doc cp_key 0 1000 0 refl none refl (omega arith) (omega arith)).1;
  craftsmanship = (within two doc craftsmanship_key 0 10000 0 refl none refl (omega arith) (omega arith)).1;
  control = (within two doc control_key 0 10000 0 refl none refl (omega arith) (omega arith)).1;
  durability = fives two doc durability_key 10 100 10 refl none refl (omega arith) (omega arith) refl;
  progress = within two doc progress_key 1 100000 1 refl none refl (omega arith) (omega arith);
  quality = quality.1;
  initial = (within two doc initial_quality_key 0 100000 0 refl none refl (omega arith) (omega arith)).1;
  progress_div = within two doc progress_div_key 1 1000 1 refl none refl (omega arith) (omega arith);
  quality_div = within two doc quality_div_key 1 1000 1 refl none refl (omega arith) (omega arith);
  progress_mod = (within two doc progress_mod_key 1 100 100 refl none refl (omega arith) (omega arith)).1;
  quality_mod = (within two doc quality_mod_key 1 100 100 refl none refl (omega arith) (omega arith)).1;
  target = (within two doc target_key 0 100000 (number_at doc quality_key 0) refl none refl quality.0 quality.1).1;
  base_progress = within two doc base_progress_key 1 5000 1 refl none refl (omega arith) (omega arith);
  base_quality = within two doc base_quality_key 1 5000 1 refl none refl (omega arith) (omega arith);
}

-- a computed base value that isn't out of range is in it
base_within : (place n : ℕ) → (row_of place).kind ≡ Number 1 5000 → base_fault place n ≡ None → IsFromTo 1 5000 n
unfolding base_fault
base_within place n kind none =
    let fit : fits (Number 1 5000) (pos n) ≡ true = stray-fits (Number 1 5000) (pos n) (rw kind at (map_none (OutOfRange place) _ none)) in
    let (below, above) = and_parts (nat_le 1 n) (nat_le n 5000) fit in
    record { low = grind (arith, nat_tests); high = grind (arith, nat_tests) }

pub progress_within : (n : ℕ) → base_fault base_progress_key n ≡ None → IsFromTo 1 5000 n
unfolding row_of rows
progress_within n none = base_within base_progress_key n refl none

pub quality_within : (n : ℕ) → base_fault base_quality_key n ≡ None → IsFromTo 1 5000 n
unfolding row_of rows
quality_within n none = base_within base_quality_key n refl none
