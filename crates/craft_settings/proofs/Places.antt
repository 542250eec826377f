-- The first fault, key by key, is the first that the steps find.
use Rattle.std.proofs.Common.{◌≡◌, ◌+◌, ◌==◌, ◌&&◌, ◌++◌, ℕ, ℤ, Bool, true, false, not, List, [], ◌∷◌, Option, Some, None, option_map, refl, sym, ◌∙◌, inl, inr, codes}
use Rattle.std.specs.List.{filter, list_all, range_with_len}
use Rattle.std.specs.Option.{option_or, is_none}
use Rattle.std.proofs.lemmas.Bool.{cases_Bool, and_parts, false≢true}
use Rattle.toml.specs.Data.{Data, Members, get_member}
use Rattle.craft_settings.specs.declared.fault.SettingsFault.{SettingsFault}
use Rattle.craft_settings.specs.declared.fault.SettingsFault.TheVariants.{OutOfRange}
use Rattle.craft_settings.specs.declared.keys.Kind.{Kind}
use Rattle.craft_settings.specs.declared.keys.Kind.TheVariants.{Table, Number, Fives, Flag, Names}
use Rattle.craft_settings.specs.Keys.{row_of, rows, section_name, has_key, places, base_progress_key, base_quality_key}
use Rattle.craft_settings.specs.Document.{value_of, section_data, is_stats}
use Rattle.craft_settings.specs.Fault.{first_some, fits, stray, integer_of}
use Rattle.craft_settings.specs.Reading.{computed_at, number_here, range_at, value_fault, fault_by, stats_progress, stats_quality}
use Rattle.craft_settings.specs.Steps.{outside_at, base_fault, computed_fault, given_fault, step_fault}
use Rattle.plain_lemmas.proofs.Tests.{not_true}

or-assoc : (a b c : Option SettingsFault) → option_or (option_or a b) c ≡ option_or a (option_or b c)
or-assoc None b c = refl
or-assoc (Some x) b c = refl

or-none : {A : Type 0} (a : Option A) → option_or a None ≡ a
or-none None = refl
or-none (Some x) = refl

first_some-append : (f : ℕ → Option SettingsFault) (xs ys : List ℕ) → first_some f (xs ++ ys) ≡ option_or (first_some f xs) (first_some f ys)
first_some-append f [] ys = refl
first_some-append f (x ∷ xs) ys = rw (first_some-append f xs ys) (sym (or-assoc (f x) (first_some f xs) (first_some f ys)))

-- the places that no computed number stands at
abbrev is_plain : ℕ → Bool
is_plain place = not (place == base_progress_key) && not (place == base_quality_key)

computed-plain : (doc : Members) → computed_at doc false false ≡ None
unfolding computed_at
computed-plain doc = elim (cases_Bool (is_stats doc)) [
  | inl h ↦ rw h
  | inr h ↦ rw h
]

number-plain : (doc : Members) (place : ℕ) → is_plain place ≡ true → number_here doc place ≡ integer_of doc (row_of place)
number-plain doc place plain =
    let (a, b) = and_parts (not (place == base_progress_key)) (not (place == base_quality_key)) plain in
    rw (not_true _ a, not_true _ b, computed-plain doc) (or-none (integer_of doc (row_of place)))

range_at-plain : (doc : Members) (place : ℕ) → is_plain place ≡ true → range_at doc place ≡ outside_at doc place
unfolding range_at outside_at
range_at-plain doc place plain = rw (number-plain doc place plain)

first_some-plain : (doc : Members) (xs : List ℕ) → list_all is_plain xs ≡ true → first_some (range_at doc) xs ≡ first_some (outside_at doc) xs
first_some-plain doc [] plain = refl
first_some-plain doc (x ∷ xs) plain =
    let (a, b) = and_parts (is_plain x) (list_all is_plain xs) plain in
    rw (range_at-plain doc x a, first_some-plain doc xs b)

none-from : (o : Option Data) → is_none o ≡ true → o ≡ None
none-from None h = refl
none-from (Some d) h = absurd (false≢true h)

-- without a key `base` nothing stands at the keys of its table
base-absent : (doc : Members) → is_stats doc ≡ true → (integer_of doc (row_of base_progress_key) ≡ None) × (integer_of doc (row_of base_quality_key) ≡ None)
unfolding value_of section_data section_name row_of rows is_stats
base-absent doc stats =
    let none : get_member (codes "base") doc ≡ None = none-from (get_member (codes "base") doc) stats in
    (rw none, rw none)

fits-none : (kind : Kind) (place : ℕ) (o : Option ℤ) → ((z : ℤ) → fits kind z ≡ true) → option_map (OutOfRange place) (stray kind o) ≡ None
unfolding stray
fits-none kind place None all = refl
fits-none kind place (Some z) all = rw (all z)

abbrev is_number : Kind → Bool
is_number (Number low high) = true
is_number (Fives low high) = true
is_number _ = false

fits-other : (kind : Kind) (z : ℤ) → is_number kind ≡ false → fits kind z ≡ true
fits-other (Number low high) z other = absurd (false≢true (sym other))
fits-other (Fives low high) z other = absurd (false≢true (sym other))
fits-other Table z other = refl
fits-other Flag z other = refl
fits-other Names z other = refl

stray-other : (kind : Kind) (o : Option ℤ) → is_number kind ≡ false → stray kind o ≡ None
unfolding stray
stray-other kind None other = refl
stray-other kind (Some z) other = rw (fits-other kind z other)

outside-other : (doc : Members) (place : ℕ) → is_number (row_of place).kind ≡ false → outside_at doc place ≡ None
unfolding outside_at
outside-other doc place other = rw (stray-other (row_of place).kind (integer_of doc (row_of place)) other)

outside-absent : (doc : Members) (place : ℕ) → integer_of doc (row_of place) ≡ None → outside_at doc place ≡ None
unfolding outside_at stray
outside-absent doc place absent = rw absent

range-progress : (doc : Members) → is_stats doc ≡ true → integer_of doc (row_of base_progress_key) ≡ None → range_at doc base_progress_key ≡ base_fault base_progress_key (stats_progress doc)
unfolding range_at base_fault computed_at
range-progress doc stats absent = rw (absent, stats)

range-quality : (doc : Members) → is_stats doc ≡ true → integer_of doc (row_of base_quality_key) ≡ None → range_at doc base_quality_key ≡ base_fault base_quality_key (stats_quality doc)
unfolding range_at base_fault computed_at
range-quality doc stats absent = rw (absent, stats)

-- the keys of a version before those of the base values, and after them
abbrev front : (two : Bool) → List ℕ
front two = filter (has_key two) (range_with_len 0 base_progress_key)

abbrev back : List ℕ
back = range_with_len (base_quality_key + 1) 3

places-parts : (two : Bool) → places two ≡ front two ++ base_progress_key ∷ base_quality_key ∷ back
unfolding places
places-parts true = refl
places-parts false = refl

front-plain : (two : Bool) → list_all is_plain (front two) ≡ true
front-plain true = refl
front-plain false = refl

back-none : (doc : Members) → first_some (outside_at doc) back ≡ None
unfolding row_of rows
back-none doc = rw (outside-other doc 21 refl, outside-other doc 22 refl, outside-other doc 23 refl)

last_two : (a b c : Option SettingsFault) → option_or a (option_or b (option_or c None)) ≡ option_or (option_or a None) (option_or b c)
last_two None b c = rw (or-none c)
last_two (Some x) b c = refl

in_stats : (two : Bool) (doc : Members) → is_stats doc ≡ true
    → first_some (range_at doc) (places two) ≡ option_or (first_some (outside_at doc) (places two)) (computed_fault doc)
unfolding computed_fault
in_stats two doc stats =
    let (no_progress, no_quality) = base-absent doc stats in
    rw (
      places-parts two,
      first_some-append (range_at doc) (front two),
      first_some-append (outside_at doc) (front two),
      first_some-plain doc (front two) (front-plain two),
      first_some-plain doc back refl,
      range-progress doc stats no_progress,
      range-quality doc stats no_quality,
      outside-absent doc base_progress_key no_progress,
      outside-absent doc base_quality_key no_quality,
      back-none doc,
      stats,
    ) (last_two (first_some (outside_at doc) (front two)) _ _)

range_at-base : (doc : Members) (place : ℕ) → is_stats doc ≡ false → range_at doc place ≡ outside_at doc place
unfolding range_at outside_at computed_at
range_at-base doc place base = rw (base, or-none (integer_of doc (row_of place)))

first_some-base : (doc : Members) (xs : List ℕ) → is_stats doc ≡ false → first_some (range_at doc) xs ≡ first_some (outside_at doc) xs
first_some-base doc [] base = refl
first_some-base doc (x ∷ xs) base = rw (range_at-base doc x base, first_some-base doc xs base)

in_base : (two : Bool) (doc : Members) → is_stats doc ≡ false → first_some (range_at doc) (places two) ≡ option_or (first_some (outside_at doc) (places two)) (computed_fault doc)
unfolding computed_fault
in_base two doc base = rw base (first_some-base doc (places two) base ∙ sym (or-none (first_some (outside_at doc) (places two))))

ranges : (two : Bool) (doc : Members) → first_some (range_at doc) (places two) ≡ option_or (first_some (outside_at doc) (places two)) (computed_fault doc)
ranges two doc =
    elim (cases_Bool (is_stats doc)) [
      | inl h ↦ in_stats two doc h
      | inr h ↦ in_base two doc h
    ]

or-steps : (p s r c rest : Option SettingsFault) → option_or (option_or p (option_or s (option_or r c))) rest ≡ option_or (option_or p (option_or s r)) (option_or c rest)
or-steps (Some x) s r c rest = refl
or-steps None (Some x) r c rest = refl
or-steps None None (Some x) c rest = refl
or-steps None None None c rest = refl

pub first_steps : (two : Bool) (doc : Members) → fault_by two doc ≡ step_fault two doc
unfolding fault_by step_fault value_fault given_fault
first_steps two doc = rw (ranges two doc, or-steps)
