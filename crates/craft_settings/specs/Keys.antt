-- The keys of a settings file, in their order. A key is its place in the list of the second version, counted from 0.
use Rattle.std.specs.Prelude.{ℕ, Bool, not, ◌||◌, ◌==◌, List, [], ◌∷◌, ◌++◌, codes, slice_index_or}
use Rattle.std.specs.List.{filter, range_with_len}
use Rattle.craft_settings.specs.declared.keys.Section.{Section}
use Rattle.craft_settings.specs.declared.keys.Section.TheVariants.{Top, Crafter, Recipe, Base, Actions}
use Rattle.craft_settings.specs.declared.keys.Kind.{Kind}
use Rattle.craft_settings.specs.declared.keys.Kind.TheVariants.{Table, Number, Fives, Flag, Names}
use Rattle.craft_settings.specs.declared.keys.Need.{Need}
use Rattle.craft_settings.specs.declared.keys.Need.TheVariants.{Never, Always, InStats, InBase}
use Rattle.craft_settings.specs.declared.keys.TheConstants.{KEYS}

unfoldable pub section_name : Section → List ℕ
section_name Top = []
section_name Crafter = codes "crafter"
section_name Recipe = codes "recipe"
section_name Base = codes "base"
section_name Actions = codes "actions"

-- the path of a key: its table's name, a dot and its name
abbrev pub path : Section → List ℕ → List ℕ
path Top name = name
path section name = section_name section ++ (codes "." ++ name)

-- what the list says of a key: its table, its name there, its path, what its value is, and which form needs it
pub record Row : Type 0 where
  pub section : Section
  pub name : List ℕ
  pub text : List ℕ
  pub kind : Kind
  pub need : Need

abbrev pub rule : Section → List ℕ → Kind → Need → Row
rule section name kind need = record { section = section; name = name; text = path section name; kind = kind; need = need }

-- the list of the second version, which has every key
unfoldable pub rows : List Row
rows =
    rule Top (codes "version") (Number 1 2) Never
    ∷ rule Top (codes "crafter") Table Never
    ∷ rule Crafter (codes "level") (Number 1 100) Always
    ∷ rule Crafter (codes "cp") (Number 0 1000) Always
    ∷ rule Crafter (codes "craftsmanship") (Number 0 10000) InStats
    ∷ rule Crafter (codes "control") (Number 0 10000) InStats
    ∷ rule Top (codes "recipe") Table Never
    ∷ rule Recipe (codes "durability") (Fives 10 100) Always
    ∷ rule Recipe (codes "progress") (Number 1 100000) Always
    ∷ rule Recipe (codes "quality") (Number 0 100000) Always
    ∷ rule Recipe (codes "initial_quality") (Number 0 100000) Never
    ∷ rule Recipe (codes "progress_div") (Number 1 1000) InStats
    ∷ rule Recipe (codes "quality_div") (Number 1 1000) InStats
    ∷ rule Recipe (codes "progress_mod") (Number 1 100) Never
    ∷ rule Recipe (codes "quality_mod") (Number 1 100) Never
    ∷ rule Recipe (codes "penalty") Flag Never
    ∷ rule Recipe (codes "target") (Number 0 100000) Never
    ∷ rule Recipe (codes "trained_eye") Flag Never
    ∷ rule Top (codes "base") Table Never
    ∷ rule Base (codes "progress") (Number 1 5000) InBase
    ∷ rule Base (codes "quality") (Number 1 5000) InBase
    ∷ rule Top (codes "actions") Table Never
    ∷ rule Actions (codes "forbid") Names Never
    ∷ rule Actions (codes "backload") Flag Never
    ∷ []

-- the places of the keys

abbrev pub level_key : ℕ
level_key = 2

abbrev pub cp_key : ℕ
cp_key = 3

abbrev pub craftsmanship_key : ℕ
craftsmanship_key = 4

abbrev pub control_key : ℕ
control_key = 5

abbrev pub durability_key : ℕ
durability_key = 7

abbrev pub progress_key : ℕ
progress_key = 8

abbrev pub quality_key : ℕ
quality_key = 9

abbrev pub initial_quality_key : ℕ
initial_quality_key = 10

abbrev pub progress_div_key : ℕ
progress_div_key = 11

abbrev pub quality_div_key : ℕ
quality_div_key = 12

abbrev pub progress_mod_key : ℕ
progress_mod_key = 13

abbrev pub quality_mod_key : ℕ
quality_mod_key = 14

abbrev pub penalty_key : ℕ
penalty_key = 15

abbrev pub target_key : ℕ
target_key = 16

abbrev pub trained_eye_key : ℕ
trained_eye_key = 17

abbrev pub base_progress_key : ℕ
base_progress_key = 19

abbrev pub base_quality_key : ℕ
base_quality_key = 20

abbrev pub forbid_key : ℕ
forbid_key = 22

abbrev pub backload_key : ℕ
backload_key = 23

-- the first version has every key but `recipe.trained_eye`
abbrev pub has_key : (two : Bool) → ℕ → Bool
has_key two key = two || not (key == trained_eye_key)

-- the keys of a version, in their order
unfoldable pub places : (two : Bool) → List ℕ
places two = filter (has_key two) (range_with_len 0 KEYS)

-- the keys from which the stats form computes the base values
abbrev pub stats_places : List ℕ
stats_places =
    craftsmanship_key ∷ control_key ∷ progress_div_key ∷ quality_div_key ∷ progress_mod_key ∷ quality_mod_key ∷ penalty_key ∷ []

abbrev pub no_row : Row
no_row = rule Top [] Table Never

-- what stands at a place of the list
unfoldable pub row_of : ℕ → Row
row_of place = slice_index_or rows place no_row

-- the path of a key
abbrev pub key_text : ℕ → List ℕ
key_text place = (row_of place).text
