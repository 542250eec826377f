-- The document of some bytes.
use Rattle.std.proofs.Common.{◌≡◌, ℕ, false, List, Option, None, refl, inl, inr}
use Rattle.std.proofs.lemmas.Bool.{cases_Bool}
use Rattle.std.proofs.lemmas.Str.{is_utf8-from_IsUtf8, IsUtf8-from_is_utf8}
use Rattle.std.specs.Str.{IsUtf8, is_utf8}
use Rattle.toml.specs.Data.{Members}
use Rattle.toml.specs.Parse.{parse_document}
use Rattle.std.specs.Option.{option_map_or, option_and_then, is_none}
use Rattle.toml.specs.Data.{get, get_member, as_table}
use Rattle.craft_settings.specs.declared.keys.Section.{Section}
use Rattle.craft_settings.specs.declared.keys.Section.TheVariants.{Top, Crafter, Recipe, Base, Actions}
use Rattle.craft_settings.specs.Keys.{row_of, section_name}
use Rattle.craft_settings.specs.Document.{document, section_data, value_of, value_at, is_shut}

pub document-text : (bytes : List ℕ) (m : Option Members) → IsUtf8 bytes → parse_document bytes ≡ m → document bytes ≡ m
unfolding document
document-text bytes m text read = rw (is_utf8-from_IsUtf8 bytes text) read

pub document-none : (bytes : List ℕ) → (IsUtf8 bytes → parse_document bytes ≡ None) → document bytes ≡ None
unfolding document
document-none bytes read =
    elim (cases_Bool (is_utf8 bytes)) [
      | inl text ↦ rw text (read (IsUtf8-from_is_utf8 bytes text))
      | inr other ↦ rw other
    ]

pub section_data-other : (doc : Members) (s : Section) → (s ≡ Top → ⊥) → section_data doc s ≡ get_member (section_name s) doc
unfolding section_data
section_data-other doc Top other = absurd (other refl)
section_data-other doc Crafter other = refl
section_data-other doc Recipe other = refl
section_data-other doc Base other = refl
section_data-other doc Actions other = refl

pub value_at-top : (doc : Members) (place : ℕ) → (row_of place).section ≡ Top → value_at doc place ≡ get_member (row_of place).name doc
unfolding value_of section_data
value_at-top doc place top = rw top

pub value_at-other : (doc : Members) (place : ℕ) → ((row_of place).section ≡ Top → ⊥) → value_at doc place ≡ option_and_then (get (row_of place).name) (get_member (section_name (row_of place).section) doc)
unfolding value_of
value_at-other doc place other = rw (section_data-other doc (row_of place).section other)

pub is_shut-other : (doc : Members) (s : Section) → (s ≡ Top → ⊥) → is_shut doc s ≡ option_map_or (λ d. is_none (as_table d)) (get_member (section_name s) doc) false
unfolding is_shut
is_shut-other doc s other = rw (section_data-other doc s other)
