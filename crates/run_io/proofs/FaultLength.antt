-- What a fault of a settings file tells of its length.
use Rattle.std.proofs.Common.{◌≡◌, ◌≢◌, ◌<◌, ◌≤◌, ◌↔◌, ℕ, List, [], ◌∷◌, length, Option, Some, None, option_map, Bool, true, false, inl, inr, subst, sym, ◌∙◌, refl, arith, nat_lt, if◌then◌else◌, Result, Ok, Err, ◌⊎◌}
use Rattle.std.specs.Bool.{⊤}
use Rattle.std.specs.Option.{option_or}
use Rattle.toml.specs.Data.{Members}
use Rattle.craft_settings.specs.declared.fault.SettingsFault.{SettingsFault}
use Rattle.craft_settings.specs.declared.fault.SettingsFault.TheVariants.{TooLong, UnknownKey, Missing, WrongKind, OutOfRange, TwoBases, UnknownAction, WantMemory}
use Rattle.craft_settings.specs.Ranges.{SettingsFields}
use Rattle.craft_settings.specs.Accepts.{Accepts}
use Rattle.craft_settings.specs.Document.{document, is_two}
use Rattle.craft_settings.specs.Fault.{OrMemory, first_some, when, is_missing, is_misfit, missing_at, misfit_at, stray}
use Rattle.craft_settings.specs.Keys.{places, row_of}
use Rattle.craft_settings.specs.Names.{names, name_fault, action_fault}
use Rattle.craft_settings.specs.Reading.{max_length, number_here, range_at, value_fault, has_two_bases, two_bases, fault_by, document_fault_by, file_fault, file_fault_by}
use Rattle.craft_settings.specs.Unknown.{unknown_path, unknown_fault, is_known}
use Rattle.run_io.specs.FaultLine.{settings_line}
use Rattle.run_io.specs.Reading.{AcceptsOnly, RefusesSettings}

-- no fault, or another one than that of length
abbrev IsOther : Option SettingsFault → Type 0
IsOther None = ⊤
IsOther (Some TooLong) = ⊥
IsOther (Some _) = ⊤

other_or : (p q : Option SettingsFault) → IsOther p → IsOther q → IsOther (option_or p q)
other_or None q is rest = rest
other_or (Some x) q is rest = is

other_first : {A : Type 0} (f : A → Option SettingsFault) (xs : List A) → ((x : A) → IsOther (f x)) → IsOther (first_some f xs)
other_first f [] each = tt
other_first f (x ∷ xs) each = other_or (f x) (first_some f xs) (each x) (other_first f xs each)

other_when : (b : Bool) (fault : SettingsFault) → IsOther (Some fault) → IsOther (when b fault)
other_when true fault is = is
other_when false fault is = tt

other_map : {A : Type 0} (f : A → SettingsFault) (x : Option A) → ((y : A) → IsOther (Some (f y))) → IsOther (option_map f x)
other_map f None each = tt
other_map f (Some y) each = each y

other_unknown : (two : Bool) (doc : Members) → IsOther (unknown_fault two doc)
unfolding unknown_fault
other_unknown two doc = other_map UnknownKey (unknown_path (is_known two) doc) (λ _. tt)

other_missing : (doc : Members) (place : ℕ) → IsOther (missing_at doc place)
unfolding missing_at
other_missing doc place = other_when (is_missing doc (row_of place)) (Missing place) tt

other_misfit : (doc : Members) (place : ℕ) → IsOther (misfit_at doc place)
unfolding misfit_at
other_misfit doc place = other_when (is_misfit doc (row_of place)) (WrongKind place) tt

other_range : (doc : Members) (place : ℕ) → IsOther (range_at doc place)
unfolding range_at
other_range doc place = other_map (OutOfRange place) (stray (row_of place).kind (number_here doc place)) (λ _. tt)

other_value : (two : Bool) (doc : Members) → IsOther (value_fault two doc)
unfolding value_fault
other_value two doc =
    other_or (first_some (missing_at doc) (places two)) _ (other_first (missing_at doc) (places two) (other_missing doc))
    (other_or (first_some (misfit_at doc) (places two)) _ (other_first (misfit_at doc) (places two) (other_misfit doc))
    (other_first (range_at doc) (places two) (other_range doc)))

other_name : (two : Bool) (name : List ℕ) → IsOther (name_fault two name)
unfolding name_fault
other_name two name = other_when _ (UnknownAction name) tt

other_document : (doc : Option Members) → IsOther (document_fault_by is_two doc)
unfolding fault_by
other_document None = tt
other_document (Some doc) =
    other_or (unknown_fault (is_two doc) doc) _ (other_unknown (is_two doc) doc)
    (other_or (value_fault (is_two doc) doc) _ (other_value (is_two doc) doc)
    (other_or (two_bases doc) (action_fault (is_two doc) doc) (other_when (has_two_bases doc) TwoBases tt)
    (other_first (name_fault (is_two doc)) (names doc) (other_name (is_two doc)))))

not_long : (b : Bool) (x : Option SettingsFault) → b ≡ false → (if b then Some TooLong else x) ≡ x
not_long true x is = absurd (cc)
not_long false x is = refl

short_fault : (bytes : List ℕ) → length bytes ≤ max_length → file_fault bytes ≡ document_fault_by is_two (document bytes)
unfolding file_fault_by
short_fault bytes short = not_long (nat_lt max_length (length bytes)) (document_fault_by is_two (document bytes)) (grind arith)

long_fault : (bytes : List ℕ) → max_length < length bytes → file_fault bytes ≡ Some TooLong
unfolding file_fault_by
long_fault bytes long = grind arith

is_other : (fault : SettingsFault) → IsOther (Some fault) → fault ≢ TooLong
is_other fault is same = subst (λ (x : SettingsFault). IsOther (Some x)) same is

refused_by : (long : Bool) (fault : SettingsFault) (bytes : List ℕ) → nat_lt max_length (length bytes) ≡ long
    → file_fault bytes ≡ Some fault → (fault ≡ TooLong) ↔ (max_length < length bytes)
refused_by true fault bytes test is =
    let long : max_length < length bytes = grind arith in
    let same : Some fault ≡ Some TooLong = sym is ∙ long_fault bytes long in
    ((λ _. long), (λ _. cc))
refused_by false fault bytes test is =
    let short : length bytes ≤ max_length = grind arith in
    let other : IsOther (Some fault) = subst IsOther (sym (short_fault bytes short) ∙ is) (other_document (document bytes)) in
    ((λ long. absurd (is_other fault other long)), (λ long. absurd (omega arith)))

one_of : (g other : SettingsFields) → (◌≡◌ {A = Result SettingsFields SettingsFault} (Ok g) (Ok other)) ⊎ (◌≡◌ {A = Result SettingsFields SettingsFault} (Ok g) (Err WantMemory)) → other ≡ g
one_of g other (inl same) = cc
one_of g other (inr none) = absurd (cc)

-- bytes are accepted as the settings that were read, and as no others
pub are_only : (g : SettingsFields) (bytes : List ℕ) → Accepts bytes g
    → ((other : SettingsFields) → Accepts bytes other → (◌≡◌ {A = Result SettingsFields SettingsFault} (Ok g) (Ok other)) ⊎ (◌≡◌ {A = Result SettingsFields SettingsFault} (Ok g) (Err WantMemory)))
    → AcceptsOnly bytes g
are_only g bytes is only = record { accepted = is; only = λ other accepted. one_of g other (only other accepted) }

not_memory : (fault : SettingsFault) (P : Type 0) → fault ≢ WantMemory → OrMemory fault P → P
not_memory fault P other (inl memory) = absurd (other memory)
not_memory fault P other (inr is) = is

-- bytes are refused with their fault
pub are_refused : (fault : SettingsFault) (bytes line : List ℕ) → fault ≢ WantMemory → OrMemory fault (file_fault bytes ≡ Some fault)
    → line ≡ settings_line fault → RefusesSettings bytes line
are_refused fault bytes line other or told =
    let is = not_memory fault (file_fault bytes ≡ Some fault) other or in
    record { fault = fault; first = is; long = refused_by (nat_lt max_length (length bytes)) fault bytes refl is; told = told }
