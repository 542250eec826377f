-- What is wrong with a key.
use Rattle.std.specs.Prelude.{◌≡◌, ℕ, ℤ, pos, negsuc, Bool, true, false, not, ◌&&◌, ◌==◌, ◌%◌, nat_le, List, [], ◌∷◌, Option, None, Some, is_none, option_and_then, if◌then◌else◌, ◌⊎◌}
use Rattle.std.specs.Option.{option_or, option_map_or}
use Rattle.toml.specs.Data.{Data, string, integer, boolean, array, table, Items, no_items, item, Members, as_integer}
use Rattle.craft_settings.specs.declared.keys.Kind.{Kind}
use Rattle.craft_settings.specs.declared.keys.Kind.TheVariants.{Table, Number, Fives, Flag, Names}
use Rattle.craft_settings.specs.declared.keys.Need.{Need}
use Rattle.craft_settings.specs.declared.keys.Need.TheVariants.{Never, Always, InStats, InBase}
use Rattle.craft_settings.specs.declared.fault.SettingsFault.{SettingsFault}
use Rattle.craft_settings.specs.declared.fault.SettingsFault.TheVariants.{Missing, WrongKind, WantMemory}
use Rattle.craft_settings.specs.Keys.{Row, row_of}
use Rattle.craft_settings.specs.Document.{is_shut, value_of, is_stats}

-- the first thing that f gives in the list
abbrev pub first_some : {A B : Type 0} → (A → Option B) → List A → Option B
first_some f [] = None
first_some f (x ∷ xs) = option_or (f x) (first_some f xs)

abbrev pub when : {A : Type 0} → Bool → A → Option A
when b x = if b then Some x else None

-- a key with this need has to be there, in the stats form or in the base form
abbrev pub is_needed : Need → (stats : Bool) → Bool
is_needed Never stats = false
is_needed Always stats = true
is_needed InStats stats = stats
is_needed InBase stats = not stats

abbrev pub are_strings : Items → Bool
are_strings no_items = true
are_strings (item (string s) ds) = are_strings ds
are_strings (item _ ds) = false

abbrev pub has_kind : Kind → Data → Bool
has_kind Table (table ms) = true
has_kind (Number low high) (integer z) = true
has_kind (Fives low high) (integer z) = true
has_kind Flag (boolean b) = true
has_kind Names (array ds) = are_strings ds
has_kind _ _ = false

abbrev pub is_between : ℕ → ℕ → ℤ → Bool
is_between low high (pos n) = nat_le low n && nat_le n high
is_between low high (negsuc n) = false

abbrev pub is_five : ℤ → Bool
is_five (pos n) = n % 5 == 0
is_five (negsuc n) = false

-- a number is in the range of its key
abbrev pub fits : Kind → ℤ → Bool
fits (Number low high) z = is_between low high z
fits (Fives low high) z = is_between low high z && is_five z
fits _ z = true

-- a key that the form needs is absent
unfoldable pub is_missing : Members → Row → Bool
is_missing doc row = is_needed row.need (is_stats doc) && (not (is_shut doc row.section) && is_none (value_of doc row))

-- a value isn't of its kind
unfoldable pub is_misfit : Members → Row → Bool
is_misfit doc row = option_map_or (λ d. not (has_kind row.kind d)) (value_of doc row) false

-- the number, where it isn't in the range
unfoldable pub stray : Kind → Option ℤ → Option ℤ
stray kind number = option_and_then (λ z. when (not (fits kind z)) z) number

abbrev pub integer_of : Members → Row → Option ℤ
integer_of doc row = option_and_then as_integer (value_of doc row)

unfoldable pub missing_at : Members → ℕ → Option SettingsFault
missing_at doc place = when (is_missing doc (row_of place)) (Missing place)

unfoldable pub misfit_at : Members → ℕ → Option SettingsFault
misfit_at doc place = when (is_misfit doc (row_of place)) (WrongKind place)

-- want of memory, or an answer that the facts call for
abbrev pub OrMemory : SettingsFault → Type 0 → Type 0
OrMemory e P = (e ≡ WantMemory) ⊎ P
