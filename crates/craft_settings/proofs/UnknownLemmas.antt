-- The first unknown key of a table in order is the least.
use Rattle.std.proofs.Common.{◌≡◌, ℕ, Bool, cond, List, [], ◌∷◌, Option, Some, None, String, Global, Less, string_bytes, refl, inl, inr}
use Rattle.std.specs.List.{AllByRecursion}
use Rattle.std.specs.List.Sorted.{IsStrictlySortedBy}
use Rattle.std.specs.Map.{keys_of}
use Rattle.std.specs.String.{string_cmp}
use Rattle.std.proofs.lemmas.Bool.{cases_Bool}
use Rattle.toml.specs.Data.{Members, no_members, member}
use Rattle.toml.specs.View.{members_view}
use Rattle.toml.proofs.Views.{Entry}
use Rattle.craft_settings.specs.Unknown.{lesser, least_unknown}

abbrev pub first_unknown : (List ℕ → Bool) → Members → Option (List ℕ)
first_unknown known no_members = None
first_unknown known (member k d ms) = cond (known k) (first_unknown known ms) (Some k)

lesser-first : (known : List ℕ → Bool) (k : String Global) (es : List Entry) → AllByRecursion (λ y. string_cmp k y ≡ Less) (keys_of es)
    → lesser (string_bytes k) (first_unknown known (members_view es)) ≡ string_bytes k
lesser-first known k [] below = refl
lesser-first known k (e ∷ es) below =
    elim (cases_Bool (known (string_bytes e.0))) [
      | inl h ↦ rw h (lesser-first known k es below.1)
      | inr h ↦ rw (h, below.0)
    ]

pub least_unknown-sorted : (known : List ℕ → Bool) (es : List Entry) → IsStrictlySortedBy string_cmp (keys_of es)
    → least_unknown known (members_view es) ≡ first_unknown known (members_view es)
unfolding IsStrictlySortedBy
least_unknown-sorted known [] sorted = refl
least_unknown-sorted known (e ∷ es) sorted =
    rw (least_unknown-sorted known es sorted.1, lesser-first known e.0 es sorted.0)
